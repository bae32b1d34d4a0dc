-- A turn of the dialogue: what the desk says to a command, and what it has afterwards. Assumes nothing.
use Rattle.std.specs.Prelude.{List, ℕ, Option, Some, None}
use Rattle.refusals.specs.RefusalNumber.{unreadable}
use Rattle.model.specs.Day.{Day, Areas}
use Rattle.model.specs.Operations.{Outcome, Enquiry, posted, withdrawn, enquired, margined, explained}
use Rattle.meanings.specs.declared.Command.{Command}
use Rattle.meanings.specs.declared.Command.TheVariants as C
use Rattle.lines.specs.Lines as L
use Rattle.written_replies.specs.Replies.{line_of, say_arrival, say_why}

-- what the desk has from line to line: both areas, and the areas of the predecessors and of the journey
pub record State : Type 0 where
  pub areas : Areas
  pub work : List ℕ
  pub journey : List ℕ

abbrev pub state : Areas → List ℕ → List ℕ → State
state areas work journey = record { areas = areas; work = work; journey = journey }

-- a turn of the dialogue: the line that is said, and what the desk has afterwards
pub record Turn : Type 0 where
  pub line : L.Line
  pub after : State

abbrev pub turn : L.Line → State → Turn
turn line after = record { line = line; after = after }

-- a call that changes the notices that stand
abbrev pub changing : State → (ℕ → L.Line) → Outcome ℕ → Turn
changing s say o = turn (line_of say o.answer) (state o.areas s.work s.journey)

-- an enquiry
abbrev pub enquiring : State → Enquiry → Turn
enquiring s e = turn (line_of (say_arrival e.journey) e.answer) (state s.areas e.work e.journey)

-- the turn of a command: its operation, worked on what the desk has; of a line that is no command: its refusal
unfoldable pub turn_of : Day → State → Option Command → Turn
turn_of day s (Some (C.Post n)) = changing s L.posted (posted day s.areas n.number n.connection n.delay)
turn_of day s (Some (C.Withdraw n)) = changing s L.withdrawn (withdrawn day s.areas n)
turn_of day s (Some (C.Enquire r)) = enquiring s (enquired day s.areas s.work s.journey r.from r.to r.time)
turn_of day s (Some (C.Margin c)) = turn (line_of L.margin (margined day s.areas c.connection c.next)) s
turn_of day s (Some (C.Why c)) = turn (line_of (say_why c) (explained day.file s.areas.notices c)) s
turn_of day s None = turn (L.refusal unreadable 0) s

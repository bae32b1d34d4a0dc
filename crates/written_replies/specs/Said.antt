-- A reply and its line: what functions promise of them. Assumes nothing.
use Rattle.std.specs.Prelude.{List, ℕ, ◌≤◌, take, length}
use Rattle.refusals.specs.Answers.{Answer, accepted, refused}
use Rattle.labels.specs.Room.{line_room}
use Rattle.arrivals.specs.Room.{arrival_room}
use Rattle.lines.specs.Lines.{Line, arrives, posted, withdrawn, margin, why}
use Rattle.written_replies.specs.declared.Reply.{Reply}
use Rattle.written_replies.specs.declared.Reply.TheVariants as R
use Rattle.written_replies.specs.Replies.{say_arrival, say_why}

-- an area with room for any line, the line of a journey that fills its area too
abbrev pub OutRoom : List ℕ → List ℕ → Type 0
OutRoom journey out = (line_room ≤ length out) × (arrival_room (length journey) ≤ length out)

-- the line of a reply, whose journey stands at the front of an area
abbrev pub line_in : List ℕ → Reply → Line
line_in journey (R.Arrives v) = say_arrival journey v
line_in journey (R.Posted n) = posted n
line_in journey (R.Withdrawn n) = withdrawn n
line_in journey (R.Margin z) = margin z
line_in journey (R.Why c p) = say_why c p

-- a reply names no more connections than the journey's area has
abbrev pub Fits : List ℕ → Answer Reply → Type 0
Fits journey (accepted (R.Arrives v)) = v.connections ≤ length journey
Fits journey (accepted (R.Posted n)) = Unit {0}
Fits journey (accepted (R.Withdrawn n)) = Unit {0}
Fits journey (accepted (R.Margin z)) = Unit {0}
Fits journey (accepted (R.Why c p)) = Unit {0}
Fits journey (refused n p) = Unit {0}

-- What the first answer of the dialogue is. Assumes nothing.
use Rattle.std.specs.Prelude.{◌≡◌, List, ℕ, Result, Ok, Err, is_ok}
use Rattle.refusals.specs.Answers.{is_accepted}
use Rattle.timetable.specs.declared.Counts.{Counts}
use Rattle.model.specs.Day.{Areas}
use Rattle.model.specs.Operations.{Outcome}
use Rattle.labels.specs.Room.{LineIs}
use Rattle.lines.specs.Lines.{text_of}
use Rattle.written_replies.specs.Replies.{line_of, say_counts}

-- the length of a building's line, of an accepted timetable or a refused one
abbrev pub size_in : Result ℕ ℕ → ℕ
size_in (Ok size) = size
size_in (Err size) = size

-- a building worked: its line stands at the front of out, the rest of out is as before, whether it is accepted is told, and both areas
-- are as it leaves them
pub record Built (answer : Result ℕ ℕ) (out out₀ : List ℕ) (after : Areas) (o : Outcome Counts) : Type 0 where
  pub written : LineIs (size_in answer) out out₀ (text_of (line_of say_counts o.answer))
  pub told : is_ok answer ≡ is_accepted o.answer
  pub left : after ≡ o.areas

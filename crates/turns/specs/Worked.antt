-- What the functions of a turn promise. Assumes nothing.
use Rattle.std.specs.Prelude.{◌≡◌, List, ℕ, Result}
use Rattle.refusals.specs.declared.Refusal.{Refusal}
use Rattle.refusals.specs.Answers.{told}
use Rattle.lines.specs.Lines.{text_of}
use Rattle.labels.specs.Room.{LineIs}
use Rattle.written_replies.specs.declared.Reply.{Reply}
use Rattle.written_replies.specs.Replies.{line_of}
use Rattle.written_replies.specs.Said.{line_in, Fits}
use Rattle.turns.specs.Turns.{State, Turn, turn}

-- a reply that is a turn's line, with what the turn leaves
pub record Performed (r : Result Reply (Refusal ℕ)) (after : State) (t : Turn) : Type 0 where
  pub is : turn (line_of (line_in after.journey) (told r)) after ≡ t
  pub fits : Fits after.journey (told r)

-- a turn worked: its line stands at the front of out, the rest of out is as before, and everything else is as the turn leaves it
pub record Worked (answer : ℕ) (out out₀ : List ℕ) (after : State) (t : Turn) : Type 0 where
  pub written : LineIs answer out out₀ (text_of t.line)
  pub left : after ≡ t.after

-- The dialogue: what the desk says to commands, one after the other. Assumes nothing.
use Rattle.std.specs.Prelude.{List, [], ◌∷◌, ◌++◌, ℕ, Option}
use Rattle.model.specs.Day.{Day}
use Rattle.meanings.specs.declared.Command.{Command}
use Rattle.lines.specs.Lines.{text_of}
use Rattle.turns.specs.Turns.{State, turn_of}

-- a dialogue: all that is said, and what the desk has at its end
pub record Talk : Type 0 where
  pub text : List ℕ
  pub after : State

abbrev pub talked : List ℕ → State → Talk
talked text after = record { text = text; after = after }

-- the dialogue of commands, one after the other
unfoldable pub talk : Day → State → List (Option Command) → Talk
talk day s [] = talked [] s
talk day s (k ∷ ks) =
    let t = turn_of day s k in
    let rest = talk day t.after ks in
    talked (text_of t.line ++ rest.text) rest.after

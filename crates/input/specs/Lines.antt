-- The lines of an input. An input is the list of its bytes. Assumes nothing.
use Rattle.std.specs.Prelude.{◌≡◌, Bool, cond, not, Option, List, [], ◌∷◌, ◌++◌, map, ℕ, suc, ◌≤◌, eqb, length, take, drop}
use Rattle.decimals.specs.Bytes.{newline}
use Rattle.cuts.specs.Cut.{has, before, on_first}
use Rattle.meanings.specs.declared.Command.{Command}
use Rattle.commands.specs.Commands.{max_line, command_of}

-- the lines of an input, each with the newline that ends it; what stands after the last newline is a line too, if it has a byte
unfoldable pub input_lines : List ℕ → List (List ℕ)
input_lines [] = []
input_lines (b ∷ bs) = cond (eqb b newline) ((b ∷ []) ∷ input_lines bs) (on_first b (input_lines bs))

-- whether an input has no newline
abbrev pub plain : List ℕ → Bool
plain input = not (has newline input)

-- the first line of an input if a newline ends it, else no byte
abbrev pub whole_line : List ℕ → List ℕ
whole_line input = cond (has newline input) (before newline input ++ newline ∷ []) []

-- an input that ends where a line ends: whatever comes next starts a new line
pub record WholeLines (input : List ℕ) : Type 0 where
  pub splits : (more : List ℕ) → input_lines (input ++ more) ≡ input_lines input ++ input_lines more

-- the commands of an input's lines
abbrev pub commands_of : List ℕ → List (Option Command)
commands_of input = map command_of (input_lines input)

-- how many bytes are held of a line that has not ended: one more than a command may have
abbrev pub held_room : ℕ
held_room = suc max_line

-- what is held of the rest of a block stands at its front, everything behind it is as before, and the answer is its length, which
-- the block has
pub record HeldBack (answer : ℕ) (after before rest : List ℕ) : Type 0 where
  pub size : answer ≡ length (take held_room rest)
  pub stands : after ≡ take held_room rest ++ drop answer before
  pub within : answer ≤ length after

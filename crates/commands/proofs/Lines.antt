-- Whether a newline ends a line, in the words of the library. Assumes nothing.
use Rattle.std.proofs.Common.{◌≡◌, ℕ, suc, ◌-◌, List, [], ◌∷◌, length, drop, refl, arith, drop_of_length-le, drop-cons}
use mathlib.Core.Bool.{and-true}
use Rattle.std.specs.Str.{bytes_eq}
use Rattle.decimals.specs.Bytes.{newline}
use Rattle.commands.specs.Commands.{ended}

-- a newline ends a line where its last byte is one
pub ended_by : (line : List ℕ) → bytes_eq (drop (length line - 1) line) (newline ∷ []) ≡ ended line
ended_by [] = refl
ended_by (b ∷ bs) =
    let line = b ∷ bs in
    let k = length line - 1 in
    rw (drop-cons line k 0 (omega arith), drop_of_length-le line {i = suc k} (omega arith), and-true)

-- Lines found, byte by byte. Assumes nothing.
use Rattle.std.proofs.Common.{◌≡◌, [], ◌∷◌, refl}
use Rattle.input.specs.Lines.{input_lines}

-- a line, an empty line, and a last line without a newline: "w 7", "", "x"
pub lines_found : input_lines (119 ∷ 32 ∷ 55 ∷ 10 ∷ 10 ∷ 120 ∷ []) ≡ (119 ∷ 32 ∷ 55 ∷ 10 ∷ []) ∷ (10 ∷ []) ∷ (120 ∷ []) ∷ []
unfolding input_lines
lines_found = refl

-- no line after a last newline
pub line_found : input_lines (120 ∷ 10 ∷ []) ≡ (120 ∷ 10 ∷ []) ∷ []
unfolding input_lines
line_found = refl

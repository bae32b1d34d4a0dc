-- Labels with their numbers, and the lines of one number and of two, each with the newline that ends it. Assumes nothing.
use Rattle.std.specs.Prelude.{List, [], ◌∷◌, ◌++◌, ℕ}
use Rattle.decimals.specs.Bytes.{newline}
use Rattle.decimals.specs.Decimal.{decimal_of}

-- how a line ends
abbrev pub line_end : List ℕ
line_end = newline ∷ []

-- a label and the number after it
abbrev pub labelled : List ℕ → ℕ → List ℕ
labelled label n = label ++ decimal_of n

-- a line of one number with its label
abbrev pub number_line : List ℕ → ℕ → List ℕ
number_line label n = labelled label n ++ line_end

-- a line of two numbers, each with its label
abbrev pub pair_line : List ℕ → ℕ → List ℕ → ℕ → List ℕ
pair_line label n second m = labelled label n ++ labelled second m ++ line_end

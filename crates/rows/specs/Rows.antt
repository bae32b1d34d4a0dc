-- Numbers that are all 0. Assumes nothing.
use Rattle.std.specs.Prelude.{Bool, List, ℕ, length, replicate}
use Rattle.model.specs.Drawn.{same}

-- only zeros
abbrev pub all_zero : List ℕ → Bool
all_zero xs = same xs (replicate (length xs) 0)

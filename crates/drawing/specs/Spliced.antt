-- A part of an area in its place. Assumes nothing.
use Rattle.std.specs.Prelude.{List, ◌++◌, ℕ, take, drop}

-- xs with ys in the place of what stands from a to e
abbrev pub spliced : List ℕ → ℕ → ℕ → List ℕ → List ℕ
spliced xs a e ys = take a xs ++ ys ++ drop e xs

-- The fronts of areas of bytes: the numbers that an operation can need of them. Assumes nothing.
use Rattle.std.specs.Prelude.{◌≡◌, Bool, cond, List, ℕ, take}
use Rattle.numbers.specs.Numbers.{numbers_of, over, over_bytes}
use Rattle.model.specs.Day.{Areas, lent}

-- the areas of numbers that two areas of bytes are
abbrev pub lent_bytes : List ℕ → List ℕ → Areas
lent_bytes notices graph = lent (numbers_of notices) (numbers_of graph)

-- how many numbers of an area are written back: all that it states, or none
abbrev pub writes : Bool → ℕ → ℕ
writes any stated = cond any stated 0

-- a and b are the fronts of two areas, of at most k and m numbers
pub record ReadFronts (k m : ℕ) (first second a b : List ℕ) : Type 0 where
  pub first_read : a ≡ take k (numbers_of first)
  pub second_read : b ≡ take m (numbers_of second)

-- two areas read into a and b, which held a₀ and b₀
pub record ReadBoth (first second a₀ b₀ a b : List ℕ) : Type 0 where
  pub first_read : a ≡ over (numbers_of first) a₀
  pub second_read : b ≡ over (numbers_of second) b₀

-- the numbers of a and b written over two areas, which held first₀ and second₀
pub record WrittenBoth (a b first₀ second₀ first second : List ℕ) : Type 0 where
  pub first_written : first ≡ over_bytes a first₀
  pub second_written : second ≡ over_bytes b second₀

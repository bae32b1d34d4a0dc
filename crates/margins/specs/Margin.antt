-- The answer of a margin. Assumes nothing.
use Rattle.std.specs.Prelude.{◌≡◌, ℕ, ℤ}
use Rattle.graph.specs.Answers.{Answer, accepted}
use Rattle.model.specs.Day.{Day, Areas}
use Rattle.model.specs.Margin.{MarginRange}
use Rattle.model.specs.Operations.{margined}

-- what the operation answers of a change from c to d, and where its minutes lie
pub record MarginAnswered (day : Day) (areas : Areas) (c d : ℕ) (r : Answer ℤ) : Type 0 where
  pub answer : r ≡ margined day areas c d
  pub range : (z : ℤ) → r ≡ accepted z → MarginRange z

-- What the working of a list of calls leaves. Assumes nothing.
use Rattle.std.specs.Prelude.{◌≡◌, List, ◌++◌, ℕ, length, drop}
use Rattle.model.specs.Day.{Areas}
use Rattle.model.specs.Runs.{Ran}
use Rattle.run_calls.specs.Calls.{told_numbers}

-- the areas of the run, and its answers; what lies past the answers is as it was
pub record Ended (r : Ran) (answers₀ : List ℕ) (areas : Areas) (answers : List ℕ) : Type 0 where
  pub areas_are : areas ≡ r.areas
  pub answers_are : answers ≡ told_numbers r.answers ++ drop (length (told_numbers r.answers)) answers₀

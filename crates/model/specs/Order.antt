-- The order of departures that the search goes by. Assumes nothing.
use Rattle.std.specs.Prelude.{◌≡◌, List, ◌⊎◌, ℕ, ◌<◌, ◌≤◌, get_or, length}
use Rattle.model.specs.Least.{none, key}

-- slot i holds the one below n that has place i, or none, and then none of them has it
abbrev pub Slot : (ℕ → ℕ) → ℕ → ℕ → ℕ → Type 0
Slot place n i x = ((x ≡ none) × ((e : ℕ) → e < n → place e ≡ i → ⊥)) ⊎ ((x < n) × (place x ≡ i))

-- the numbers below n stand in the first m slots in the order of time, then number; the other slots are none
pub record Ordered (time : ℕ → ℕ) (n m : ℕ) (order : List ℕ) : Type 0 where
  pub place : ℕ → ℕ
  pub rises : (e c : ℕ) → e < n → c < n → key time e < key time c → place e < place c
  pub within : (c : ℕ) → c < n → place c < m
  pub room : m ≤ length order
  pub slots : (i : ℕ) → i < m → Slot place n i (get_or order i 0)

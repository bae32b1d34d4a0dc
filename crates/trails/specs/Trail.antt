-- Predecessors that can be followed to the start of a journey, and the journey written. Assumes nothing.
use Rattle.std.specs.Prelude.{◌≡◌, cond, List, [], ◌∷◌, ◌++◌, reverse, ℕ, ◌<◌, eqb, length, get_or, drop}
use Rattle.model.specs.Least.{none}
use Rattle.model.specs.Predecessors.{follow}

-- the journey by the predecessors in w that ends with c, read from its end
abbrev pub journey_to : List ℕ → ℕ → List ℕ
journey_to w c = follow w (length w) c

-- following an entry leads to an entry, and comes to its end within as many steps as there are entries
pub record Rooted (w : List ℕ) : Type 0 where
  pub within : (c : ℕ) → c < length w → get_or w c none < none → get_or w c none < length w
  pub onward : (c : ℕ) → c < length w → get_or w c none < none → get_or w (get_or w c none) none < none
  pub ended : (c : ℕ) → c < length w → get_or w c none < none
      → journey_to w c ≡ c ∷ cond (eqb (get_or w c none) c) [] (journey_to w (get_or w c none))

-- a journey by the predecessors in w ends with connection c
pub record Trail (w : List ℕ) (c : ℕ) : Type 0 where
  pub rooted : Rooted w
  pub numbered : c < length w
  pub reached : get_or w c none < none

-- the journey that ends with c stands in the order of travel at the front of the journey's area, and has k connections
pub record JourneyWritten (w : List ℕ) (c : ℕ) (journey₀ : List ℕ) (k : ℕ) (journey : List ℕ) : Type 0 where
  pub count : k ≡ length (journey_to w c)
  pub connections : journey ≡ reverse (journey_to w c) ++ drop k journey₀

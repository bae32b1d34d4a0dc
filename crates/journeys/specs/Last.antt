-- What the search for the last connection of a journey keeps. Assumes nothing.
use Rattle.std.specs.Prelude.{List, ℕ, Option, Some, None}
use Rattle.model.specs.Least.{Found, Nobody}
use Rattle.model.specs.Network.{Network}
use Rattle.model.specs.Predecessors.{arriving}

-- of the connections below c, best is the first by arrival, then number, that ends a journey at stop b, if there is one
abbrev pub Better : Network → List ℕ → ℕ → ℕ → Option ℕ → Type 0
Better net w b c None = Nobody (arriving net w b) c
Better net w b c (Some r) = Found (arriving net w b) net.arrival c r

-- The entry that a connection gets on its visit. Assumes nothing.
use Rattle.std.specs.Prelude.{cond, ◌&&◌, List, ℕ, ◌-◌, min, get_or}
use Rattle.model.specs.Least.{none}
use Rattle.model.specs.Network.{Network}
use Rattle.model.specs.Journeys.{can_be_first}
use Rattle.model.specs.Predecessors.{reached_in}

-- the entry that d gets on its visit
unfoldable pub settled : Network → ℕ → ℕ → List ℕ → ℕ → ℕ
settled net a t work d =
    cond (can_be_first net a t d) d
    (cond (net.stays_aboard d && reached_in work (d - 1)) (min (get_or work d none) (d - 1))
    (get_or work d none))

-- What the filler of the transfer entries relies on and leaves. It is told no times: what holds, holds for all times by which the
-- events are so ordered. Assumes nothing.
use Rattle.std.specs.Prelude.{◌≡◌, List, ℕ}
use Rattle.model.specs.Least.{tab}
use Rattle.model.specs.Network.{Network}
use Rattle.model.specs.Graph.{transfer, first_departure}
use Rattle.model.specs.Shown.{shown}
use Rattle.departures.specs.Events.{EventOrder}
use Rattle.lists.specs.Lists.{Departed}

-- transfer entries, first departures and departures of a network
pub record Transfers (net : Network) (k : ℕ) (heads departed part : List ℕ) : Type 0 where
  pub transfer_entries : part ≡ tab (transfer net) net.connections
  pub first_departures : heads ≡ tab (first_departure net) net.stops
  pub departures : Departed net k departed

-- events ordered by some times
abbrev pub OrderedBySome : List ℕ → List ℕ → Type 0
OrderedBySome f order = (g : List ℕ) × EventOrder (shown f g) order

-- filled by the order of events
abbrev pub TransfersBy : List ℕ → List ℕ → ℕ → List ℕ → List ℕ → List ℕ → Type 0
TransfersBy f order k heads departed part = (g : List ℕ) → EventOrder (shown f g) order → Transfers (shown f g) k heads departed part

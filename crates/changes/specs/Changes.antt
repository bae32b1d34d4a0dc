-- What a transfer entry of a handed-in graph area has to show by the marks of its links: it leaves in time where the departure
-- before it does not. Assumes nothing.
use Rattle.std.specs.Prelude.{◌≡◌, Bool, List, ℕ, ◌<◌, ◌≤◌, get_or}
use Rattle.model.specs.Least.{none}
use Rattle.model.specs.Network.{Network}
use Rattle.model.specs.Graph.{board, ready, transfer_in}
use Rattle.model.specs.Shown.{shown}
use Rattle.links.specs.Telling.{Tells}

-- the transfer entry of c in a graph area of the network
abbrev pub change_of : Network → List ℕ → ℕ → ℕ
change_of net g c = transfer_in g net.connections c

-- the transfer entry of c is none, and the last departure of the board where c arrives leaves before the passenger is ready; or it
-- is on that board and leaves in time, and the departure before it does not
pub data ChangeLink (net : Network) (g marks lasts : List ℕ) (c : ℕ) : Type 0 where
  nobody : change_of net g c ≡ none → get_or lasts (net.to c) 0 ≤ ready net c (net.to c) → ChangeLink net g marks lasts c
  leads : change_of net g c < net.connections → board net (change_of net g c) ≡ net.to c
      → ready net c (net.to c) ≤ net.departure (change_of net g c) → get_or marks (change_of net g c) 0 ≤ ready net c (net.to c)
      → ChangeLink net g marks lasts c

-- the check of connection c's transfer entry
abbrev pub ChangeTold : List ℕ → List ℕ → List ℕ → List ℕ → ℕ → Bool → Type 0
ChangeTold f g marks lasts c r = Tells r (ChangeLink (shown f g) g marks lasts c)

-- What the filler of the waiting entries relies on and leaves. It is told no times: what holds, holds for all times by which the
-- departures are so ordered. Assumes nothing.
use Rattle.std.specs.Prelude.{◌≡◌, List, ℕ, ◌<◌, ◌≤◌, length, get_or}
use Rattle.timetable.specs.File.{connections}
use Rattle.model.specs.Least.{key, tab}
use Rattle.model.specs.Network.{Network, Sound}
use Rattle.model.specs.Graph.{waiting}
use Rattle.model.specs.Shown.{shown}

-- the first k numbers of l are those that P names, from the last departure to the first
pub record Falling (net : Network) (P : ℕ → Type 0) (k : ℕ) (l : List ℕ) : Type 0 where
  pub room : k ≤ length l
  pub each : (j : ℕ) → j < k → P (get_or l j 0)
  pub all : (d : ℕ) → P d → (j : ℕ) × (j < k) × (get_or l j 0 ≡ d)
  pub falls : (i j : ℕ) → i < j → j < k → key net.departure (get_or l j 0) < key net.departure (get_or l i 0)

-- the first k numbers of l are the connections of a sound network, from the last departure to the first
pub record Departed (net : Network) (k : ℕ) (l : List ℕ) : Type 0 where
  pub sound : Sound net
  pub falling : Falling net (λ d. d < net.connections) k l

-- departures by some times
abbrev pub DepartedBySome : List ℕ → List ℕ → Type 0
DepartedBySome f departed = (g : List ℕ) × Departed (shown f g) (length departed) departed

-- filled by the departures
abbrev pub WaitingBy : List ℕ → List ℕ → List ℕ → Type 0
WaitingBy f departed part = (g : List ℕ) → Departed (shown f g) (length departed) departed → part ≡ tab (waiting (shown f g)) (connections f)

-- The links of a handed-in graph area, its first departures and waiting entries: each leads to a departure of the same board, a
-- waiting entry to a later one; and the marks of the connections and boards by them. Assumes nothing.
use Rattle.std.specs.Prelude.{◌≡◌, List, ℕ, suc, ◌<◌, length, get_or}
use Rattle.model.specs.Least.{none, key}
use Rattle.model.specs.Network.{Network}
use Rattle.model.specs.Graph.{board, waiting_in, first_in}

-- the entries of a graph area of the network
abbrev pub first_of : Network → List ℕ → ℕ → ℕ
first_of net g b = first_in g net.connections b

abbrev pub next_of : Network → List ℕ → ℕ → ℕ
next_of net g c = waiting_in g net.connections c

-- the first departure of board b is none, or is on b
pub data FirstLink (net : Network) (g : List ℕ) (b : ℕ) : Type 0 where
  nobody : first_of net g b ≡ none → FirstLink net g b
  leads : first_of net g b < net.connections → board net (first_of net g b) ≡ b → FirstLink net g b

-- the waiting entry of c is none, or is on the same board and leaves after c
pub data NextLink (net : Network) (g : List ℕ) (c : ℕ) : Type 0 where
  nobody : next_of net g c ≡ none → NextLink net g c
  leads : next_of net g c < net.connections → board net (next_of net g c) ≡ board net c
      → key net.departure c < key net.departure (next_of net g c) → NextLink net g c

-- x is what is marked at d by the links of the first k boards and m connections: none if no link leads to d; 0 if d is the first
-- of a board; else one minute more than the departure of a connection that d follows
pub data Mark (net : Network) (g : List ℕ) (k m d x : ℕ) : Type 0 where
  missed : x ≡ none → ((b : ℕ) → b < k → first_of net g b ≡ d → ⊥) → ((c : ℕ) → c < m → next_of net g c ≡ d → ⊥) → Mark net g k m d x
  first : (b : ℕ) → b < k → first_of net g b ≡ d → x ≡ 0 → Mark net g k m d x
  next : (c : ℕ) → c < m → next_of net g c ≡ d → x ≡ suc (net.departure c) → Mark net g k m d x

-- the marks of all connections
pub record Marks (net : Network) (g : List ℕ) (k m : ℕ) (marks : List ℕ) : Type 0 where
  pub long : length marks ≡ net.connections
  pub each : (d : ℕ) → d < net.connections → Mark net g k m d (get_or marks d 0)

-- x is what is marked at board b by the waiting entries of the first m connections: 0 if each of its departures is followed by
-- another, else one minute more than a departure that is not
pub data Last (net : Network) (g : List ℕ) (m b x : ℕ) : Type 0 where
  followed : x ≡ 0 → ((c : ℕ) → c < m → board net c ≡ b → next_of net g c ≡ none → ⊥) → Last net g m b x
  unfollowed : (c : ℕ) → c < m → board net c ≡ b → next_of net g c ≡ none → x ≡ suc (net.departure c) → Last net g m b x

-- the last departures of all boards
pub record Lasts (net : Network) (g : List ℕ) (m : ℕ) (lasts : List ℕ) : Type 0 where
  pub long : length lasts ≡ net.stops
  pub each : (b : ℕ) → b < net.stops → Last net g m b (get_or lasts b 0)

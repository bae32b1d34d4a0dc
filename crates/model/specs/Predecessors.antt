-- The predecessor of each connection (document 01: the work area), by rounds, and the journey that they give. Everything here
-- computes. Assumes nothing.
use Rattle.std.specs.Prelude.{◌≡◌, Bool, true, false, cond, not, ◌&&◌, List, [], ◌∷◌, ℕ, zero, suc, ◌≤◌, ltb, eqb, get_or}
use Rattle.model.specs.Least.{none, least_below, tab}
use Rattle.model.specs.Network.{Network}
use Rattle.model.specs.Journeys.{can_be_first, can_follow, Ends}

-- the predecessors in w say that a valid journey ends with e
abbrev pub reached_in : List ℕ → ℕ → Bool
reached_in w e = ltb (get_or w e none) none

-- the predecessor of c, where w says which connections end a valid journey: c itself if it can be the first, else the lowest
-- that can stand before it
unfoldable pub choose : Network → ℕ → ℕ → List ℕ → ℕ → ℕ
choose net a t w c =
    cond (can_be_first net a t c) c (least_below (λ e. reached_in w e && can_follow net e c) (λ e. 0) net.connections)

-- the predecessors if only journeys of at most k connections counted
unfoldable pub rounds : Network → ℕ → ℕ → ℕ → List ℕ
rounds net a t zero = []
rounds net a t (suc k) = tab (choose net a t (rounds net a t k)) net.connections

-- the predecessors: no valid journey has more connections than there are
unfoldable pub predecessors : Network → ℕ → ℕ → List ℕ
predecessors net a t = rounds net a t net.connections

-- follow the predecessors in w from c to the one that is its own, k steps at most
unfoldable pub follow : List ℕ → ℕ → ℕ → List ℕ
follow w zero c = []
follow w (suc k) c = c ∷ elim (eqb (get_or w c none) c) [ true ↦ [] | false ↦ follow w k (get_or w c none) ]

-- c ends a valid journey and arrives at b
unfoldable pub arriving : Network → List ℕ → ℕ → ℕ → Bool
arriving net w b c = reached_in w c && eqb (net.to c) b

-- the last connection of the answer: the first by arrival, then number, of those that end a valid journey and arrive at b
unfoldable pub last_to : Network → List ℕ → ℕ → ℕ
last_to net w b = least_below (arriving net w b) net.arrival net.connections

-- w leads to no journey from a to b
unfoldable pub nowhere : Network → List ℕ → ℕ → ℕ → Bool
nowhere net w a b = not (eqb a b) && eqb (last_to net w b) none

-- the journey from a to b by the predecessors in w, read from its end: empty where the stops are equal
unfoldable pub journey_in : Network → List ℕ → ℕ → ℕ → List ℕ
journey_in net w a b = elim (eqb a b) [ true ↦ [] | false ↦ follow w net.connections (last_to net w b) ]

-- e ends a valid journey from a at time t and can stand before c
abbrev pub StandsBefore : Network → ℕ → ℕ → ℕ → ℕ → Type 0
StandsBefore net a t c e = ((js : List ℕ) × Ends net a t (e ∷ js)) × (can_follow net e c ≡ true)

-- document 01's sentence on the entry p of connection c in the work area
pub data Predecessor (net : Network) (a t c : ℕ) : ℕ → Type 0 where
  own : {p : ℕ} → can_be_first net a t c ≡ true → p ≡ c → Predecessor net a t c p
  before : {p : ℕ} → can_be_first net a t c ≡ false → StandsBefore net a t c p → ((e : ℕ) → StandsBefore net a t c e → p ≤ e)
      → Predecessor net a t c p
  unreached : {p : ℕ} → ((js : List ℕ) → Ends net a t (c ∷ js) → ⊥) → p ≡ none → Predecessor net a t c p

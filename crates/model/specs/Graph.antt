-- The reduced time-expanded graph of a network: departure lists, the graph area, and its arcs. Assumes nothing.
use Rattle.std.specs.Prelude.{◌≡◌, ◌⊎◌, Bool, true, ◌&&◌, List, [], ◌∷◌, ◌++◌, ℕ, zero, suc, ◌+◌, ◌*◌, ◌<◌, ltb, leb, eqb, get_or}
use Rattle.model.specs.Least.{key, least_below, tab}
use Rattle.model.specs.Network.{Network}

-- the board on which a connection's departure is listed: that of its stop
abbrev pub board : Network → ℕ → ℕ
board net c = net.from c

-- of the departures of a board that pass the test, the first by expected departure, then number
unfoldable pub first_on : Network → ℕ → (ℕ → Bool) → ℕ
first_on net b test = least_below (λ d. eqb (board net d) b && test d) net.departure net.connections

-- when a passenger who arrives by c is ready to leave from board b by another trip
abbrev pub ready : Network → ℕ → ℕ → ℕ
ready net c b = net.arrival c + net.transfer_time c b

-- the next departure from the same stop
unfoldable pub waiting : Network → ℕ → ℕ
waiting net c = first_on net (board net c) (λ d. ltb (key net.departure c) (key net.departure d))

-- the first departure that a passenger who arrives by c can change to
unfoldable pub transfer_to : Network → ℕ → ℕ → ℕ
transfer_to net c b = first_on net b (λ d. leb (ready net c b) (net.departure d))

-- a connection's transfer entry
abbrev pub transfer : Network → ℕ → ℕ
transfer net c = transfer_to net c (net.to c)

-- the first departure of a stop
unfoldable pub first_departure : Network → ℕ → ℕ
first_departure net s = first_on net s (λ d. true)

-- departure and arrival of each of the first n connections
unfoldable pub times : Network → ℕ → List ℕ
times net zero = []
times net (suc n) = times net n ++ (net.departure n ∷ net.arrival n ∷ [])

-- the graph area: times, waiting, transfers, first departures
unfoldable pub graph_of : Network → List ℕ
graph_of net =
    times net net.connections
    ++ tab (waiting net) net.connections
    ++ tab (transfer net) net.connections
    ++ tab (first_departure net) net.stops

-- where the entries stand in a graph area of n connections
abbrev pub departure_in : List ℕ → ℕ → ℕ
departure_in area c = get_or area (2 * c) 0

abbrev pub arrival_in : List ℕ → ℕ → ℕ
arrival_in area c = get_or area (2 * c + 1) 0

abbrev pub waiting_in : List ℕ → ℕ → ℕ → ℕ
waiting_in area n c = get_or area (2 * n + c) 0

abbrev pub transfer_in : List ℕ → ℕ → ℕ → ℕ
transfer_in area n c = get_or area (3 * n + c) 0

abbrev pub first_in : List ℕ → ℕ → ℕ → ℕ
first_in area n s = get_or area (4 * n + s) 0

-- how many numbers the graph area has
abbrev pub graph_size : ℕ → ℕ → ℕ
graph_size s c = 4 * c + s

-- the nodes of the graph
pub data Node : Type 0 where
  departure_of : ℕ → Node
  arrival_of : ℕ → Node

-- the four kinds of arcs; an entry that is a connection is an arc, and none is no connection
pub data Arc (net : Network) : Node → Node → Type 0 where
  connection : {c : ℕ} → c < net.connections → Arc net (departure_of c) (arrival_of c)
  aboard : {c : ℕ} → suc c < net.connections → net.stays_aboard (suc c) ≡ true → Arc net (arrival_of c) (arrival_of (suc c))
  wait : {c d : ℕ} → c < net.connections → waiting net c ≡ d → d < net.connections → Arc net (departure_of c) (departure_of d)
  change : {c d : ℕ} → c < net.connections → transfer net c ≡ d → d < net.connections → Arc net (arrival_of c) (departure_of d)

-- a node's minute
abbrev pub minute : Network → Node → ℕ
minute net (departure_of c) = net.departure c
minute net (arrival_of c) = net.arrival c

-- in the same minute: from an arrival to a departure, or between departures of one stop to a higher number
abbrev pub SameMinute : Network → Node → Node → Type 0
SameMinute net (arrival_of c) (departure_of d) = Unit {0}
SameMinute net (departure_of c) (departure_of d) = (net.from c ≡ net.from d) × (c < d)
SameMinute net (departure_of c) (arrival_of d) = ⊥
SameMinute net (arrival_of c) (arrival_of d) = ⊥

-- document 01's forward
abbrev pub Forward : Network → Node → Node → Type 0
Forward net x y = (minute net x < minute net y) ⊎ ((minute net x ≡ minute net y) × SameMinute net x y)

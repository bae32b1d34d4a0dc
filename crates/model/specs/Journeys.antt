-- Valid journeys, as lists of connections read from their end, and the order in which document 01 compares them.
-- Assumes nothing.
use Rattle.std.specs.Prelude.{◌≡◌, Bool, true, ◌&&◌, ◌||◌, List, [], ◌∷◌, ℕ, suc, ◌<◌, ◌≤◌, leb, eqb}
use Rattle.model.specs.Network.{Network}
use Rattle.model.specs.Graph.{board, ready, Node, departure_of, arrival_of, Arc}

-- c leaves stop a at time t or later
unfoldable pub can_be_first : Network → ℕ → ℕ → ℕ → Bool
can_be_first net a t c = eqb (net.from c) a && leb t (net.departure c)

-- c starts where e ends, and is the next of e's trip or leaves when a passenger of e is ready, or later
unfoldable pub can_follow : Network → ℕ → ℕ → Bool
can_follow net e c =
    eqb (net.from c) (net.to e)
    && ((net.stays_aboard c && eqb c (suc e)) || leb (ready net e (board net c)) (net.departure c))

-- a journey from a at time t that is not empty, its last connection first
pub data Ends (net : Network) (a t : ℕ) : List ℕ → Type 0 where
  first : {c : ℕ} → c < net.connections → can_be_first net a t c ≡ true → Ends net a t (c ∷ [])
  next : {c e : ℕ} {js : List ℕ} → c < net.connections → can_follow net e c ≡ true → Ends net a t (e ∷ js) → Ends net a t (c ∷ e ∷ js)

-- a valid journey from a to b at time t: the empty one where the stops are equal, or one whose last connection ends at b
pub data Valid (net : Network) (a b t : ℕ) : List ℕ → Type 0 where
  stay : a ≡ b → Valid net a b t []
  travel : {c : ℕ} {js : List ℕ} → Ends net a t (c ∷ js) → net.to c ≡ b → Valid net a b t (c ∷ js)

-- when it arrives
abbrev pub arrives : Network → ℕ → List ℕ → ℕ
arrives net t [] = t
arrives net t (c ∷ js) = net.arrival c

-- dictionary order, a list that stops sooner first: the one list is the other or comes before it
pub data NotAfter : List ℕ → List ℕ → Type 0 where
  stops : {ys : List ℕ} → NotAfter [] ys
  lower : {x y : ℕ} {xs ys : List ℕ} → x < y → NotAfter (x ∷ xs) (y ∷ ys)
  beyond : {x : ℕ} {xs ys : List ℕ} → NotAfter xs ys → NotAfter (x ∷ xs) (x ∷ ys)

-- js is the answer to an enquiry from a to b at time t: valid, none arrives earlier, and of those that arrive when it does
-- it is the first in the order
pub record Best (net : Network) (a b t : ℕ) (js : List ℕ) : Type 0 where
  pub valid : Valid net a b t js
  pub earliest : {ks : List ℕ} → Valid net a b t ks → arrives net t js ≤ arrives net t ks
  pub foremost : {ks : List ℕ} → Valid net a b t ks → arrives net t ks ≡ arrives net t js → NotAfter js ks

-- there is no valid journey
abbrev pub Unreachable : Network → ℕ → ℕ → ℕ → Type 0
Unreachable net a b t = (js : List ℕ) → Valid net a b t js → ⊥

-- a path over the graph's arcs from a departure of stop a not before t to a node, with the connections aboard which it
-- arrives on the way, the last one first
pub data Route (net : Network) (a t : ℕ) : Node → List ℕ → Type 0 where
  start : {c : ℕ} → c < net.connections → net.from c ≡ a → t ≤ net.departure c → Route net a t (departure_of c) []
  onto : {x : Node} {c : ℕ} {js : List ℕ} → Route net a t x js → Arc net x (arrival_of c) → Route net a t (arrival_of c) (c ∷ js)
  along : {x : Node} {c : ℕ} {js : List ℕ} → Route net a t x js → Arc net x (departure_of c) → Route net a t (departure_of c) js

-- What a timetable and a graph area show by themselves, whatever notices stand. Assumes nothing.
use Rattle.std.specs.Prelude.{◌≡◌, true, List, ◌++◌, ℕ, suc, ◌<◌, drop}
use Rattle.timetable.specs.File.{stops, connections, from, to, stays_aboard, transfer_time}
use Rattle.timetable.specs.Accepted.{Timetable}
use Rattle.model.specs.Least.{none}
use Rattle.model.specs.Network.{Network, Sound}
use Rattle.model.specs.Graph.{graph_of, departure_in, arrival_in, waiting_in, transfer_in, Node, departure_of, arrival_of, Forward}
use Rattle.model.specs.Drawn.{graph_length}

-- the network of a timetable with the times that a graph area shows
abbrev pub shown : List ℕ → List ℕ → Network
shown f graph =
    record {
      stops = stops f;
      connections = connections f;
      from = from f;
      to = to f;
      departure = departure_in graph;
      arrival = arrival_in graph;
      stays_aboard = stays_aboard f;
      transfer_time = λ c b. transfer_time f (to f c);
    }

-- a graph area has the lists that belong to the times that it shows
abbrev pub Drawn : List ℕ → List ℕ → Type 0
Drawn f graph = graph ≡ graph_of (shown f graph) ++ drop (graph_length f) graph

-- an accepted timetable, and a graph area that shows sound times and has the lists that belong to them
pub record Readable (f graph : List ℕ) : Type 0 where
  pub timetable : Timetable f
  pub sound : Sound (shown f graph)
  pub drawn : Drawn f graph

-- the arcs of a graph area: those that are not stored, aboard a connection and staying aboard to the next of the trip; and each
-- waiting and each transfer entry other than none, from its connection to the one that it names
pub data AreaArc (f graph : List ℕ) : Node → Node → Type 0 where
  aboard : {c : ℕ} → c < connections f → AreaArc f graph (departure_of c) (arrival_of c)
  onward : {c : ℕ} → suc c < connections f → stays_aboard f (suc c) ≡ true → AreaArc f graph (arrival_of c) (arrival_of (suc c))
  wait : {c d : ℕ} → c < connections f → waiting_in graph (connections f) c ≡ d → (d ≡ none → ⊥)
      → AreaArc f graph (departure_of c) (departure_of d)
  change : {c d : ℕ} → c < connections f → transfer_in graph (connections f) c ≡ d → (d ≡ none → ⊥)
      → AreaArc f graph (arrival_of c) (departure_of d)

-- the connection of a node
abbrev pub connection_of : Node → ℕ
connection_of (departure_of c) = c
connection_of (arrival_of c) = c

-- an arc leads to a connection that there is, and forward by the times that the area shows
pub record Leads (f graph : List ℕ) (x y : Node) : Type 0 where
  pub exists : connection_of y < connections f
  pub forward : Forward (shown f graph) x y

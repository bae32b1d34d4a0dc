-- The graph area of a day and the notices that stand. Assumes nothing.
use Rattle.std.specs.Prelude.{Bool, true, false, ◌&&◌, List, [], ◌∷◌, ◌++◌, ℕ, eqb, drop}
use Rattle.timetable.specs.File.{stops, connections}
use Rattle.timetable.specs.Check.{max_stops, max_connections}
use Rattle.model.specs.Notices.{rows_of}
use Rattle.model.specs.declared.Notice.{Notice}
use Rattle.model.specs.Day.{Day, Areas}
use Rattle.model.specs.Network.{Network}
use Rattle.model.specs.Times.{network_of}
use Rattle.model.specs.Graph.{graph_of, graph_size}

-- whether two lists are the same, number by number
unfoldable pub same : List ℕ → List ℕ → Bool
same [] [] = true
same [] (y ∷ ys) = false
same (x ∷ xs) [] = false
same (x ∷ xs) (y ∷ ys) = eqb x y && same xs ys

-- the graph area's stated length for a timetable
abbrev pub graph_length : List ℕ → ℕ
graph_length f = graph_size (stops f) (connections f)

-- the longest graph area
abbrev pub most_graph : ℕ
most_graph = graph_size max_stops max_connections

-- the graph area for a day and the notices that stand
abbrev pub graph_for : Day → List Notice → List ℕ
graph_for day ns = graph_of (network_of day ns)

-- an area with that at its front; what lies past its stated length stays
abbrev pub graph_with : Day → List Notice → List ℕ → List ℕ
graph_with day ns area = graph_for day ns ++ drop (graph_length day.file) area

-- the notices that stand by both areas, and the network that they give
abbrev pub standing : Areas → List Notice
standing areas = rows_of areas.notices

abbrev pub network_by : Day → Areas → Network
network_by day areas = network_of day (standing areas)

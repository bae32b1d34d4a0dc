-- The connections of a timetable file, one after the other. Assumes nothing.
use Rattle.std.specs.Prelude.{List, [], ◌∷◌, ℕ, zero, suc}
use Rattle.timetable.specs.File.{connections, trip, from, to, scheduled_departure, scheduled_arrival}
use Rattle.gtfs.specs.Feed.{Connection}

-- connection c
abbrev pub connection_at : List ℕ → ℕ → Connection
connection_at f c =
    record { trip = trip f c; from = from f c; to = to f c; departure = scheduled_departure f c; arrival = scheduled_arrival f c }

-- n connections from connection c on
unfoldable pub connections_from : List ℕ → ℕ → ℕ → List Connection
connections_from f c zero = []
connections_from f c (suc n) = connection_at f c ∷ connections_from f (suc c) n

-- all of them
abbrev pub connections_in : List ℕ → List Connection
connections_in f = connections_from f 0 (connections f)

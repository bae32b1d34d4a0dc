-- The rows of a timetable file, and its text. Assumes nothing.
use Rattle.std.specs.Prelude.{Bool, cond, ◌&&◌, List, [], ◌∷◌, ◌++◌, ℕ, zero, suc, ltb}
use Rattle.timetable.specs.File.{connections, trip, from, to, scheduled_departure, scheduled_arrival, stays_aboard}
use Rattle.gtfs.specs.declared.StopTime.{StopTime}
use Rattle.gtfs.specs.StopTimes.{header_text, row_text}

-- how many connections of its trip stand before connection c
unfoldable pub position : List ℕ → ℕ → ℕ
position f zero = 0
position f (suc c) = cond (stays_aboard f (suc c)) (suc (position f c)) 0

-- whether the trip of connection c goes on after it
abbrev pub trip_goes_on : List ℕ → ℕ → Bool
trip_goes_on f c = ltb (suc c) (connections f) && stays_aboard f (suc c)

-- the row of a trip's first stop, before its first connection c: the departure stands in both times
abbrev pub start_row : List ℕ → ℕ → StopTime
start_row f c =
    record { trip = trip f c; arrival = scheduled_departure f c; departure = scheduled_departure f c; stop = from f c; sequence = 0 }

-- when the trip goes on from the stop that connection c goes to; at its last stop the arrival there
abbrev pub leaves_again : List ℕ → ℕ → ℕ
leaves_again f c = cond (trip_goes_on f c) (scheduled_departure f (suc c)) (scheduled_arrival f c)

-- the row of the stop that connection c goes to
abbrev pub end_row : List ℕ → ℕ → StopTime
end_row f c =
    record {
      trip = trip f c;
      arrival = scheduled_arrival f c;
      departure = leaves_again f c;
      stop = to f c;
      sequence = suc (position f c);
    }

-- the rows that connection c adds
abbrev pub rows_at : List ℕ → ℕ → List StopTime
rows_at f c = cond (stays_aboard f c) (end_row f c ∷ []) (start_row f c ∷ end_row f c ∷ [])

-- the rows of n connections from connection c on
unfoldable pub rows_from : List ℕ → ℕ → ℕ → List StopTime
rows_from f c zero = []
rows_from f c (suc n) = rows_at f c ++ rows_from f (suc c) n

-- the rows of a timetable
abbrev pub timetable_rows : List ℕ → List StopTime
timetable_rows f = rows_from f 0 (connections f)

-- rows written one after the other
unfoldable pub rows_text : List StopTime → List ℕ
rows_text [] = []
rows_text (row ∷ rows) = row_text row ++ rows_text rows

-- the text of a timetable
unfoldable pub text_of : List ℕ → List ℕ
text_of f = header_text ++ rows_text (timetable_rows f)

-- The rows of stop_times.txt: a line read as one, and one written as a line. Assumes nothing.
use Rattle.std.specs.Prelude.{cond, Option, Some, None, is_some, unwrap_or, ◌&&◌, List, [], ◌∷◌, ◌++◌, ℕ}
use Rattle.decimals.specs.Bytes.{newline}
use Rattle.decimals.specs.Decimal.{decimal, decimal_of}
use Rattle.cuts.specs.Cut.{before, after}
use Rattle.gtfs.specs.declared.StopTime.{StopTime}
use Rattle.gtfs.specs.Clock.{time_of, time_text}

-- what stands between the columns of a row
abbrev pub comma : ℕ
comma = 44

-- "trip_id,arrival_time,departure_time,stop_id,stop_sequence", with the newline that ends it
abbrev pub header_text : List ℕ
header_text =
    116 ∷ 114 ∷ 105 ∷ 112 ∷ 95 ∷ 105 ∷ 100 ∷ comma ∷
    97 ∷ 114 ∷ 114 ∷ 105 ∷ 118 ∷ 97 ∷ 108 ∷ 95 ∷ 116 ∷ 105 ∷ 109 ∷ 101 ∷ comma ∷
    100 ∷ 101 ∷ 112 ∷ 97 ∷ 114 ∷ 116 ∷ 117 ∷ 114 ∷ 101 ∷ 95 ∷ 116 ∷ 105 ∷ 109 ∷ 101 ∷ comma ∷
    115 ∷ 116 ∷ 111 ∷ 112 ∷ 95 ∷ 105 ∷ 100 ∷ comma ∷
    115 ∷ 116 ∷ 111 ∷ 112 ∷ 95 ∷ 115 ∷ 101 ∷ 113 ∷ 117 ∷ 101 ∷ 110 ∷ 99 ∷ 101 ∷ newline ∷ []

-- the number that was read, 0 where none was
abbrev pub number_in : Option ℕ → ℕ
number_in n = unwrap_or n 0

-- the row of five columns, if all are read
abbrev pub row_from : Option ℕ → Option ℕ → Option ℕ → Option ℕ → Option ℕ → Option StopTime
row_from trip arrival departure stop sequence =
    cond (is_some trip && is_some arrival && is_some departure && is_some stop && is_some sequence)
    (Some (record {
      trip = number_in trip;
      arrival = number_in arrival;
      departure = number_in departure;
      stop = number_in stop;
      sequence = number_in sequence;
    }))
    None

-- a line as a row: trip_id, arrival_time, departure_time and stop_id before a comma each, then stop_sequence. Where a column is missing,
-- the next is no byte, and where there is one too many, a comma stands in the last: neither can be read.
unfoldable pub row_of : List ℕ → Option StopTime
row_of line =
    let line1 = after comma line in
    let line2 = after comma line1 in
    let line3 = after comma line2 in
    row_from (decimal (before comma line)) (time_of (before comma line1)) (time_of (before comma line2)) (decimal (before comma line3))
    (decimal (after comma line3))

-- the row that a line is; of zeros where it is none
abbrev pub row_in : Option StopTime → StopTime
row_in row = unwrap_or row (record { trip = 0; arrival = 0; departure = 0; stop = 0; sequence = 0 })

-- a column written, with the byte that ends it
abbrev pub number_cell : ℕ → ℕ → List ℕ
number_cell n byte = decimal_of n ++ (byte ∷ [])

abbrev pub time_cell : ℕ → ℕ → List ℕ
time_cell t byte = time_text t ++ (byte ∷ [])

-- a row written: no leading zeros in numbers, two digits in hours
unfoldable pub row_text : StopTime → List ℕ
row_text row =
    number_cell row.trip comma ++ time_cell row.arrival comma ++ time_cell row.departure comma ++ number_cell row.stop comma
    ++ number_cell row.sequence newline

-- What the text of an export is, sentence by sentence. Assumes nothing.
use Rattle.std.specs.Prelude.{false, List, [], ◌∷◌, ◌++◌, ◌≡◌, ℕ, suc, ◌+◌, ◌<◌, length, get_or}
use Rattle.decimals.specs.Bytes.{newline, digit_zero}
use Rattle.timetable.specs.File.{connections, trip, from, to, scheduled_departure, scheduled_arrival, stays_aboard}
use Rattle.gtfs.specs.StopTimes.{header_text}
use Rattle.gtfs.specs.Rows.{trip_goes_on}
use Rattle.gtfs.specs.declared.StopTime.{StopTime}
use Rattle.feed_meanings.specs.Words.{IsRow}
use Rattle.feed_meanings.specs.Texts.{row_at}

-- the place of the row that connection c starts from: each trip before its own has one row more than connections
abbrev pub start_place : List ℕ → ℕ → ℕ
start_place f c = c + trip f c

-- the row that connection c starts from
pub record StartsFrom (f : List ℕ) (c : ℕ) (row : StopTime) : Type 0 where
  pub trip_id_lem : row.trip ≡ trip f c
  pub stop_id_lem : row.stop ≡ from f c
  pub departs : row.departure ≡ scheduled_departure f c
  -- the first of a trip: the departure stands in both times, and stop_sequence is 0
  pub first_arrival : stays_aboard f c ≡ false → row.arrival ≡ scheduled_departure f c
  pub first_sequence : stays_aboard f c ≡ false → row.sequence ≡ 0

-- the row that it goes to
pub record GoesTo (f : List ℕ) (c : ℕ) (row : StopTime) : Type 0 where
  pub trip_id_lem : row.trip ≡ trip f c
  pub stop_id_lem : row.stop ≡ to f c
  pub arrives : row.arrival ≡ scheduled_arrival f c
  -- the last of a trip: the arrival stands in both times
  pub last_departure : trip_goes_on f c ≡ false → row.departure ≡ scheduled_arrival f c

-- the rows of a timetable: those that its connections start from and go to, in order; the row between two connections of a trip is
-- the one that the first goes to and the second starts from
pub record Exported (f : List ℕ) (rows : List StopTime) : Type 0 where
  pub none : connections f ≡ 0 → rows ≡ []
  pub as_many : (c : ℕ) → suc c ≡ connections f → length rows ≡ suc (suc (start_place f c))
  pub starts : (c : ℕ) → c < connections f → StartsFrom f c (row_at rows (start_place f c))
  pub goes : (c : ℕ) → c < connections f → GoesTo f c (row_at rows (suc (start_place f c)))
  -- stop_sequence rises by ones in a trip
  pub by_ones : (c : ℕ) → c < connections f
      → (row_at rows (suc (start_place f c))).sequence ≡ suc (row_at rows (start_place f c)).sequence

-- a number of more than one digit does not begin with 0
abbrev pub NoLeadingZero : List ℕ → Type 0
NoLeadingZero w = 1 < length w → get_or w 0 0 ≡ digit_zero → ⊥

-- a line as an export writes it: no leading zeros in numbers, two digits of hours
pub record PlainRow (line : List ℕ) (row : StopTime) : Type 0 where
  pub is_row_lem : IsRow line row
  pub trip_plain : NoLeadingZero is_row_lem.trip_word
  pub stop_plain : NoLeadingZero is_row_lem.stop_word
  pub sequence_plain : NoLeadingZero is_row_lem.sequence_word
  pub arrival_hours : length is_row_lem.arrival.hours ≡ 2
  pub departure_hours : length is_row_lem.departure.hours ≡ 2

-- a text of such lines, each with its newline
pub data PlainLines : List ℕ → List StopTime → Type 0 where
  no_line : PlainLines [] []
  line_first : {line text : List ℕ} {row : StopTime} {rows : List StopTime}
      → PlainRow line row → PlainLines text rows → PlainLines (line ++ (newline ∷ text)) (row ∷ rows)

-- the text of a timetable: the first line, and the rows of the timetable, a line each
pub record ExportedText (f text : List ℕ) : Type 0 where
  pub rows : List StopTime
  pub body : List ℕ
  pub header : text ≡ header_text ++ body
  pub lines : PlainLines body rows
  pub exported : Exported f rows

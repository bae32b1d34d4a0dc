-- Example J as a text and back, and small texts for each sentence of the request, computed: what the definitions give beside what was
-- worked out by hand. Texts are quoted, rows one a line. Assumes nothing.
use Rattle.std.proofs.Common.{◌≡◌, ℕ, List, [], ◌∷◌, ◌++◌, map, replicate, refl}
use Prim.Native.Char.{code}
use Prim.Native.String.{String}
use Prim.Native.String as string
use Rattle.decimals.specs.Bytes.{newline}
use Rattle.decimals.specs.Decimal.{all_digits, value_after, decimal, last_digits, decimal_of}
use Rattle.numbers.specs.Numbers.{numbers_of, bytes_of}
use Rattle.refusals.specs.Answers.{accepted, refused, first_below, Verdict, Passed, Refused}
use Rattle.timetable.specs.File.{transfer_time, trip, from, to, scheduled_departure, scheduled_arrival, stays_aboard}
use Rattle.timetable.specs.Check.{header_verdict, stop_verdict, wrong_stops, wrong_trip, wrong_times, wrong_join, connection_verdict, file_verdict}
use Rattle.cuts.specs.Cut.{before, after, starts_with}
use Rattle.gtfs.specs.Clock.{is_clock_end, time_of, time_text}
use Rattle.gtfs.specs.StopTimes.{row_of, row_text}
use Rattle.gtfs.specs.Feed.{lines_verdict, rows_in, alone_verdict, text_verdict, connections_of}
use Rattle.gtfs.specs.Files.{connection_numbers, file_of}
use Rattle.gtfs.specs.Rows.{position, rows_from, rows_text, text_of}
use Rattle.gtfs.specs.Conversions.{Conversion, conversion, counts_verdict, import_verdict, imported_file, imported, exported}

-- the bytes of a quoted text
unfoldable bytes : String → List ℕ
bytes string.[] = []
bytes (string.◌∷◌ c text) = code c ∷ bytes text

-- lines, each with its newline; the first line is given
unfoldable lines : List String → List ℕ
unfolding bytes
lines [] = []
lines (line ∷ rest) = bytes line ++ (newline ∷ lines rest)

unfoldable feed : List String → List ℕ
unfolding lines
feed rows = lines ("trip_id,arrival_time,departure_time,stop_id,stop_sequence" ∷ rows)

-- a row of five columns
unfoldable column : String → String → String
column word rest = string.◌++◌ word (string.◌++◌ "," rest)

unfoldable row : String → String → String → String → String → String
unfolding column
row trip_id_lem arrival departure stop_id_lem sequence = column trip_id_lem (column arrival (column departure (column stop_id_lem sequence)))

-- a file of these numbers
unfoldable file : List ℕ → List ℕ
unfolding bytes_of
file ns = 84 ∷ 84 ∷ 71 ∷ bytes_of ns

-- the verdict on a text, and on its import with these minimum transfer times
unfoldable reading : List ℕ → Verdict
unfolding Rattle.cuts.specs.Cut.pieces starts_with before after
    text_verdict lines_verdict rows_in alone_verdict row_of time_of is_clock_end decimal all_digits value_after
reading text = text_verdict text

unfoldable importing : List ℕ → List ℕ → Verdict
unfolding reading import_verdict connections_of file_of connection_numbers numbers_of bytes_of
    file_verdict header_verdict stop_verdict wrong_stops wrong_trip wrong_times wrong_join connection_verdict first_below
    transfer_time trip from to scheduled_departure scheduled_arrival stays_aboard
importing transfers text = import_verdict text (bytes_of transfers)

-- what the definitions give, beside what was worked out
abbrev Table : Type 0 → Type 0
Table A = List (A × A)

abbrev given : {A : Type 0} → Table A → List A
given table = map (λ c. c.0) table

abbrev worked : {A : Type 0} → Table A → List A
worked table = map (λ c. c.1) table

-- the minimum transfer times of example J: three stops
abbrev example_transfers : List ℕ
example_transfers = 4 ∷ 5 ∷ 3 ∷ []

-- a trip from stop 0 to stop 1 of three, with these times: arrival and departure of its first row, then of its second
unfoldable ride : String → String → String → String → Verdict
unfolding importing feed row
ride arrival departure next-arrival next-departure =
    importing example_transfers (feed (row "0" arrival departure "0" "0" ∷ row "0" next-arrival next-departure "1" "1" ∷ []))

unfoldable times : Table Verdict
unfolding ride
times =
    -- hours of one digit and of two
    (ride "9:05:00" "9:05:00" "09:50:00" "10:00:00", Passed) ∷
    -- past 24:00:00, to the last minute of a timetable
    (ride "24:00:00" "24:00:00" "71:59:00" "71:59:00", Passed) ∷
    (ride "71:00:00" "71:00:00" "72:00:00" "72:00:00", Refused 10 0) ∷
    -- the first arrival and the last departure are not kept: past that minute, or before their neighbour
    (ride "72:00:00" "10:00:00" "10:20:00" "72:00:00", Passed) ∷
    (ride "99:59:00" "10:00:00" "10:20:00" "99:59:00", Passed) ∷
    (ride "12:00:00" "10:00:00" "10:20:00" "0:00:00", Passed) ∷
    -- but they are read
    (ride "10:60:00" "10:00:00" "10:20:00" "10:20:00", Refused 31 1) ∷
    (ride "10:00:00" "10:00:00" "10:20:00" "10:20:30", Refused 31 2) ∷
    (ride "" "10:00:00" "10:20:00" "10:20:00", Refused 31 1) ∷
    -- minutes to 59, seconds 00, each of two digits
    (ride "10:59:00" "10:59:00" "11:00:00" "11:00:00", Passed) ∷
    (ride "10:60:00" "10:60:00" "11:00:00" "11:00:00", Refused 31 1) ∷
    (ride "10:00:00" "10:00:00" "10:20:01" "10:20:00", Refused 31 2) ∷
    (ride "10:00:00" "10:00:00" "10:20:10" "10:20:00", Refused 31 2) ∷
    (ride "10:00:00" "10:5:00" "10:20:00" "10:20:00", Refused 31 1) ∷
    (ride "10:00:00" "10:00:0" "10:20:00" "10:20:00", Refused 31 1) ∷
    (ride "10:00:00" "10:00" "10:20:00" "10:20:00", Refused 31 1) ∷
    -- one or two digits of hours, and nothing else
    (ride "10:00:00" ":00:00" "10:20:00" "10:20:00", Refused 31 1) ∷
    (ride "10:00:00" "010:00:00" "10:20:00" "10:20:00", Refused 31 1) ∷
    (ride "10:00:00" " 9:00:00" "10:20:00" "10:20:00", Refused 31 1) ∷
    (ride "10:00:00" "1x:00:00" "10:20:00" "10:20:00", Refused 31 1) ∷
    (ride "10:00:00" "10.00.00" "10:20:00" "10:20:00", Refused 31 1) ∷
    []

times_right : given times ≡ worked times
unfolding times
times_right = refl

-- a trip of two rows, with the trip_id and stop_sequence of its first row, then the stop_id and stop_sequence of its second
unfoldable numbered : String → String → String → String → Verdict
unfolding importing feed row
numbered trip_id_lem sequence next-stop next-sequence =
    importing example_transfers
    (feed (row trip_id_lem "10:00:00" "10:00:00" "0" sequence ∷ row "0" "10:20:00" "10:20:00" next-stop next-sequence ∷ []))

unfoldable numbers : Table Verdict
unfolding numbered
numbers =
    -- leading zeros, but no sixth digit
    (numbered "0" "0" "1" "1", Passed) ∷
    (numbered "00000" "00000" "00001" "0001", Passed) ∷
    (numbered "000000" "0" "1" "1", Refused 31 1) ∷
    (numbered "0" "0" "1" "000001", Refused 31 2) ∷
    -- to 65,535
    (numbered "0" "65534" "1" "65535", Passed) ∷
    (numbered "0" "65534" "1" "65536", Refused 31 2) ∷
    -- a stop that the list has not is a number all the same
    (numbered "0" "0" "65535" "1", Refused 8 0) ∷
    (numbered "0" "0" "65536" "1", Refused 31 2) ∷
    -- nothing but digits
    (numbered "" "0" "1" "1", Refused 31 1) ∷
    (numbered "+0" "0" "1" "1", Refused 31 1) ∷
    (numbered " 0" "0" "1" "1", Refused 31 1) ∷
    (numbered "0 " "0" "1" "1", Refused 31 1) ∷
    (numbered "a" "0" "1" "1", Refused 31 1) ∷
    (numbered "0" "-1" "1" "1", Refused 31 1) ∷
    (numbered "0" "0" "1" "", Refused 31 2) ∷
    []

numbers_right : given numbers ≡ worked numbers
unfolding numbers
numbers_right = refl

-- rows with this trip_id and stop_sequence each
unfoldable call : String → String → String
unfolding row
call trip_id_lem sequence = row trip_id_lem "10:00:00" "10:00:00" "0" sequence

unfoldable calls : List String → Verdict
unfolding reading feed call
calls rows = reading (feed rows)

unfoldable order : Table Verdict
unfolding calls
order =
    -- no row
    (calls [], Passed) ∷
    -- stop_sequence rises, by ones or not, and begins anywhere in each trip
    (calls (call "0" "0" ∷ call "0" "1" ∷ call "0" "2" ∷ []), Passed) ∷
    (calls (call "0" "3" ∷ call "0" "7" ∷ call "0" "65535" ∷ []), Passed) ∷
    (calls (call "0" "8" ∷ call "0" "9" ∷ call "1" "9" ∷ call "1" "10" ∷ call "2" "0" ∷ call "2" "1" ∷ []), Passed) ∷
    (calls (call "0" "3" ∷ call "0" "3" ∷ []), Refused 31 2) ∷
    (calls (call "0" "3" ∷ call "0" "4" ∷ call "0" "2" ∷ []), Refused 31 3) ∷
    -- by number and not by digits
    (calls (call "0" "9" ∷ call "00" "10" ∷ []), Passed) ∷
    (calls (call "0" "9" ∷ call "0" "09" ∷ []), Refused 31 2) ∷
    -- trips from 0 with no gap
    (calls (call "1" "0" ∷ call "1" "1" ∷ []), Refused 31 1) ∷
    (calls (call "0" "0" ∷ call "0" "1" ∷ call "2" "0" ∷ call "2" "1" ∷ []), Refused 31 3) ∷
    -- a trip that comes back
    (calls (call "0" "0" ∷ call "0" "1" ∷ call "1" "0" ∷ call "1" "1" ∷ call "0" "2" ∷ call "0" "3" ∷ []), Refused 31 5) ∷
    -- rows not by trip
    (calls (call "0" "0" ∷ call "1" "0" ∷ call "0" "1" ∷ call "1" "1" ∷ []), Refused 31 3) ∷
    -- a row alone in its trip: the only one, the first, one in the middle, the last
    (calls (call "0" "0" ∷ []), Refused 31 1) ∷
    (calls (call "0" "0" ∷ call "1" "0" ∷ call "1" "1" ∷ []), Refused 31 1) ∷
    (calls (call "0" "0" ∷ call "0" "1" ∷ call "1" "0" ∷ call "2" "0" ∷ call "2" "1" ∷ []), Refused 31 3) ∷
    (calls (call "0" "0" ∷ call "0" "1" ∷ call "1" "0" ∷ []), Refused 31 3) ∷
    -- the first of two
    (calls (call "0" "0" ∷ call "0" "1" ∷ call "1" "0" ∷ call "2" "0" ∷ []), Refused 31 3) ∷
    -- a wrong row further down comes first
    (calls (call "0" "0" ∷ call "1" "0" ∷ call "1" "1" ∷ call "3" "0" ∷ []), Refused 31 4) ∷
    (calls (call "0" "0" ∷ call "1" "5" ∷ call "1" "5" ∷ []), Refused 31 3) ∷
    (calls (call "0" "0" ∷ call "1" "0" ∷ call "1" "1" ∷ "" ∷ []), Refused 31 4) ∷
    []

order_right : given order ≡ worked order
unfolding order
order_right = refl

-- a text as it stands, and one that ends without a newline after these rows
unfoldable quoted : String → Verdict
unfolding reading bytes
quoted text = reading (bytes text)

unfoldable broken : List String → String → Verdict
unfolding reading feed
broken rows rest = reading (feed rows ++ bytes rest)

unfoldable texts : Table Verdict
unfolding quoted broken calls
texts =
    -- the first line, letter by letter, with its newline
    (quoted "", Refused 31 0) ∷
    (quoted "\n", Refused 31 0) ∷
    (quoted "trip_id,arrival_time,departure_time,stop_id,stop_sequence\n", Passed) ∷
    (quoted "trip_id,arrival_time,departure_time,stop_id,stop_sequence", Refused 31 0) ∷
    (quoted "trip_id,arrival_time,departure_time,stop_id,stop_sequence\r\n", Refused 31 0) ∷
    (quoted "trip_id, arrival_time, departure_time, stop_id, stop_sequence\n", Refused 31 0) ∷
    (quoted "trip_id,arrival_time,departure_time,stop_id,stop_sequence \n", Refused 31 0) ∷
    (quoted "trip_id,stop_id,arrival_time,departure_time,stop_sequence\n", Refused 31 0) ∷
    (quoted "trip_id,arrival_time,departure_time,stop_id,stop_sequence,stop_headsign\n", Refused 31 0) ∷
    (quoted "\"trip_id\",\"arrival_time\",\"departure_time\",\"stop_id\",\"stop_sequence\"\n", Refused 31 0) ∷
    (quoted "\ntrip_id,arrival_time,departure_time,stop_id,stop_sequence\n", Refused 31 0) ∷
    (quoted "0,10:00:00,10:00:00,0,0\n0,10:20:00,10:20:00,1,1\n", Refused 31 0) ∷
    -- each row with its newline alone
    (calls ("0,10:00:00,10:00:00,0,0" ∷ "0,10:20:00,10:20:00,1,1" ∷ []), Passed) ∷
    (calls ("0,10:00:00,10:00:00,0,0\r" ∷ "0,10:20:00,10:20:00,1,1\r" ∷ []), Refused 31 1) ∷
    (broken [] "0,10:00:00,10:00:00,0,0", Refused 31 1) ∷
    (broken ("0,10:00:00,10:00:00,0,0" ∷ []) "0,10:20:00,10:20:00,1,1", Refused 31 2) ∷
    (broken ("0,10:00:00,10:00:00,0,0" ∷ "0,10:20:00,10:20:00,1,1" ∷ []) " ", Refused 31 3) ∷
    (broken ("0,10:00:00,10:00:00,0,0" ∷ "0,10:20:00,10:20:00,1,1" ∷ []) "", Passed) ∷
    -- no quotes, no spaces
    (calls ("\"0\",10:00:00,10:00:00,0,0" ∷ "0,10:20:00,10:20:00,1,1" ∷ []), Refused 31 1) ∷
    (calls ("0,10:00:00,10:00:00,0,0" ∷ "0,\"10:20:00\",10:20:00,1,1" ∷ []), Refused 31 2) ∷
    (calls ("0, 10:00:00, 10:00:00, 0, 0" ∷ "0,10:20:00,10:20:00,1,1" ∷ []), Refused 31 1) ∷
    (calls ("0,10:00:00,10:00:00,0,0 " ∷ "0,10:20:00,10:20:00,1,1" ∷ []), Refused 31 1) ∷
    -- five columns
    (calls ("0,10:00:00,10:00:00,0" ∷ "0,10:20:00,10:20:00,1,1" ∷ []), Refused 31 1) ∷
    (calls ("0,10:00:00,10:00:00,0,0," ∷ "0,10:20:00,10:20:00,1,1" ∷ []), Refused 31 1) ∷
    (calls ("0,10:00:00,10:00:00,0,0,0" ∷ "0,10:20:00,10:20:00,1,1" ∷ []), Refused 31 1) ∷
    (calls ("0;10:00:00;10:00:00;0;0" ∷ "0,10:20:00,10:20:00,1,1" ∷ []), Refused 31 1) ∷
    -- no empty line
    (calls ("" ∷ "0,10:00:00,10:00:00,0,0" ∷ "0,10:20:00,10:20:00,1,1" ∷ []), Refused 31 1) ∷
    (calls ("0,10:00:00,10:00:00,0,0" ∷ "" ∷ "0,10:20:00,10:20:00,1,1" ∷ []), Refused 31 2) ∷
    (calls ("0,10:00:00,10:00:00,0,0" ∷ "0,10:20:00,10:20:00,1,1" ∷ "" ∷ []), Refused 31 3) ∷
    -- the first line once
    (calls ("trip_id,arrival_time,departure_time,stop_id,stop_sequence" ∷ []), Refused 31 1) ∷
    []

texts_right : given texts ≡ worked texts
unfolding texts
texts_right = refl

-- example J of document 01: its file and its text
unfoldable example_file : List ℕ
unfolding file
example_file =
    file
    (1 ∷ 3 ∷ 5 ∷
    4 ∷ 5 ∷ 3 ∷
    0 ∷ 0 ∷ 1 ∷ 600 ∷ 620 ∷
    0 ∷ 1 ∷ 2 ∷ 625 ∷ 640 ∷
    1 ∷ 1 ∷ 2 ∷ 622 ∷ 650 ∷
    1 ∷ 2 ∷ 0 ∷ 655 ∷ 690 ∷
    2 ∷ 1 ∷ 2 ∷ 630 ∷ 642 ∷
    [])

abbrev example_rows : List String
example_rows =
    "0,10:00:00,10:00:00,0,0" ∷
    "0,10:20:00,10:25:00,1,1" ∷
    "0,10:40:00,10:40:00,2,2" ∷
    "1,10:22:00,10:22:00,1,0" ∷
    "1,10:50:00,10:55:00,2,1" ∷
    "1,11:30:00,11:30:00,0,2" ∷
    "2,10:30:00,10:30:00,1,0" ∷
    "2,10:42:00,10:42:00,2,1" ∷
    []

-- a trip of twelve stops from the first minute on, and one to the last minute
abbrev long_transfers : List ℕ
long_transfers = 0 ∷ 0 ∷ 0 ∷ 0 ∷ 0 ∷ 0 ∷ 0 ∷ 0 ∷ 0 ∷ 0 ∷ 0 ∷ 60 ∷ []

unfoldable long_file : List ℕ
unfolding file
long_file =
    file
    (1 ∷ 12 ∷ 12 ∷
    0 ∷ 0 ∷ 0 ∷ 0 ∷ 0 ∷ 0 ∷ 0 ∷ 0 ∷ 0 ∷ 0 ∷ 0 ∷ 60 ∷
    0 ∷ 0 ∷ 1 ∷ 0 ∷ 1 ∷
    0 ∷ 1 ∷ 2 ∷ 2 ∷ 3 ∷
    0 ∷ 2 ∷ 3 ∷ 9 ∷ 10 ∷
    0 ∷ 3 ∷ 4 ∷ 58 ∷ 59 ∷
    0 ∷ 4 ∷ 5 ∷ 59 ∷ 60 ∷
    0 ∷ 5 ∷ 6 ∷ 60 ∷ 61 ∷
    0 ∷ 6 ∷ 7 ∷ 599 ∷ 600 ∷
    0 ∷ 7 ∷ 8 ∷ 1439 ∷ 1440 ∷
    0 ∷ 8 ∷ 9 ∷ 1441 ∷ 1501 ∷
    0 ∷ 9 ∷ 10 ∷ 1501 ∷ 2000 ∷
    0 ∷ 10 ∷ 11 ∷ 2000 ∷ 4319 ∷
    1 ∷ 11 ∷ 0 ∷ 4318 ∷ 4319 ∷
    [])

abbrev long_rows : List String
long_rows =
    "0,00:00:00,00:00:00,0,0" ∷
    "0,00:01:00,00:02:00,1,1" ∷
    "0,00:03:00,00:09:00,2,2" ∷
    "0,00:10:00,00:58:00,3,3" ∷
    "0,00:59:00,00:59:00,4,4" ∷
    "0,01:00:00,01:00:00,5,5" ∷
    "0,01:01:00,09:59:00,6,6" ∷
    "0,10:00:00,23:59:00,7,7" ∷
    "0,24:00:00,24:01:00,8,8" ∷
    "0,25:01:00,25:01:00,9,9" ∷
    "0,33:20:00,33:20:00,10,10" ∷
    "0,71:59:00,71:59:00,11,11" ∷
    "1,71:58:00,71:58:00,11,0" ∷
    "1,71:59:00,71:59:00,0,1" ∷
    []

-- rows as another writes them: leading zeros, hours of one digit, gaps in stop_sequence, times that are not kept
abbrev other_rows : List String
other_rows =
    "00,10:00:00,9:05:00,02,3" ∷
    "0,9:50:00,10:00:00,1,7" ∷
    "000,11:00:00,99:59:00,0,00012" ∷
    "1,0:00:00,23:59:00,0,65534" ∷
    "00001,24:00:00,8:00:00,00002,65535" ∷
    []

-- rows imported with these minimum transfer times
unfoldable imports : List ℕ → List String → Verdict
unfolding importing feed
imports transfers rows = importing transfers (feed rows)

-- two rows of a trip, and a trip of three rows
abbrev short : List String
short = "0,10:00:00,10:00:00,0,0" ∷ "0,10:20:00,10:20:00,1,1" ∷ []

abbrev long : String → String → List String
long second third = "0,10:00:00,10:00:00,0,0" ∷ second ∷ third ∷ []

unfoldable files : Table Verdict
unfolding imports
files =
    -- how many stops: the length of the list
    (imports [] short, Refused 4 0) ∷
    (imports [] [], Refused 4 0) ∷
    (imports (7 ∷ []) [], Passed) ∷
    (imports (replicate 500 0) [], Passed) ∷
    (imports (replicate 501 0) [], Refused 4 0) ∷
    -- 31 comes before it
    (imports [] ("0,10:00:00,10:00:00,0,0" ∷ []), Refused 31 1) ∷
    -- transfer times to 60
    (imports (0 ∷ 60 ∷ []) short, Passed) ∷
    (imports (0 ∷ 61 ∷ []) short, Refused 7 1) ∷
    -- stops of the list, the next row's another one
    (imports (0 ∷ []) short, Refused 8 0) ∷
    (imports example_transfers (long "0,10:20:00,10:25:00,1,1" "0,10:40:00,10:40:00,2,2"), Passed) ∷
    (imports example_transfers (long "0,10:20:00,10:25:00,1,1" "0,10:40:00,10:40:00,3,2"), Refused 8 1) ∷
    (imports example_transfers (long "0,10:20:00,10:25:00,1,1" "0,10:40:00,10:40:00,1,2"), Refused 8 1) ∷
    (imports example_transfers (long "0,10:20:00,10:25:00,1,1" "0,10:40:00,10:40:00,0,2"), Passed) ∷
    -- times that run backwards between two rows
    (imports example_transfers (long "0,10:00:00,10:25:00,1,1" "0,10:40:00,10:40:00,2,2"), Refused 10 0) ∷
    (imports example_transfers (long "0,9:59:00,10:25:00,1,1" "0,10:40:00,10:40:00,2,2"), Refused 10 0) ∷
    (imports example_transfers (long "0,10:20:00,10:25:00,1,1" "0,10:24:00,10:40:00,2,2"), Refused 10 1) ∷
    -- and within one: not at a trip's end
    (imports example_transfers (long "0,10:20:00,10:19:00,1,1" "0,10:40:00,10:40:00,2,2"), Refused 11 1) ∷
    (imports example_transfers (long "0,10:20:00,10:20:00,1,1" "0,10:40:00,10:30:00,2,2"), Passed) ∷
    -- 72:00:00 in between
    (imports example_transfers (long "0,71:59:00,72:00:00,1,1" "0,72:01:00,72:01:00,2,2"), Refused 10 1) ∷
    -- in document 01's order: the stops before the connections, these one by one
    (imports (4 ∷ 5 ∷ 61 ∷ []) (long "0,9:00:00,10:25:00,1,1" "0,10:40:00,10:40:00,2,2"), Refused 7 2) ∷
    (imports example_transfers (long "0,9:00:00,10:25:00,1,1" "0,10:40:00,10:40:00,3,2"), Refused 10 0) ∷
    (imports example_transfers (long "0,9:00:00,10:25:00,0,1" "0,10:40:00,10:40:00,3,2"), Refused 8 0) ∷
    -- the next trip may leave before this one arrives, from another stop
    (imports example_transfers (short ++ ("1,9:00:00,9:00:00,2,0" ∷ "1,9:30:00,9:30:00,0,1" ∷ [])), Passed) ∷
    -- the three timetables above
    (imports example_transfers example_rows, Passed) ∷
    (imports long_transfers long_rows, Passed) ∷
    (imports example_transfers other_rows, Passed) ∷
    -- counts past 16 bits, and at their limits
    (counts_verdict 65537 1, Refused 4 0) ∷
    (counts_verdict 0 65536, Refused 4 0) ∷
    (counts_verdict 500 2000, Passed) ∷
    (counts_verdict 1 2001, Refused 5 0) ∷
    (counts_verdict 1 65536, Refused 5 0) ∷
    []

files_right : given files ≡ worked files
unfolding files
files_right = refl

-- the file of these rows
unfoldable made : List ℕ → List String → List ℕ
unfolding importing feed
made transfers rows = imported_file (feed rows) (bytes_of transfers)

-- the text of a file
unfoldable told : List ℕ → List ℕ
unfolding file text_of rows_from rows_text row_text position time_text decimal_of last_digits
    trip from to scheduled_departure scheduled_arrival stays_aboard
told f = text_of f

unfoldable conversions : Table (List ℕ)
unfolding made told feed example_file long_file
conversions =
    -- J, both ways
    (made example_transfers example_rows, example_file) ∷
    (told example_file, feed example_rows) ∷
    -- the long trip, both ways
    (made long_transfers long_rows, long_file) ∷
    (told long_file, feed long_rows) ∷
    -- another's rows: their file, and its text
    (
      made example_transfers other_rows,
      file
          (1 ∷ 3 ∷ 3 ∷
          4 ∷ 5 ∷ 3 ∷
          0 ∷ 2 ∷ 1 ∷ 545 ∷ 590 ∷
          0 ∷ 1 ∷ 0 ∷ 600 ∷ 660 ∷
          1 ∷ 0 ∷ 2 ∷ 1439 ∷ 1440 ∷
          []),
    ) ∷ (
      told (made example_transfers other_rows),
      feed
          ("0,09:05:00,09:05:00,2,0" ∷
          "0,09:50:00,10:00:00,1,1" ∷
          "0,11:00:00,11:00:00,0,2" ∷
          "1,23:59:00,23:59:00,0,0" ∷
          "1,24:00:00,24:00:00,2,1" ∷
          []),
    ) ∷
    -- no row
    (made (4 ∷ 60 ∷ []) [], file (1 ∷ 2 ∷ 0 ∷ 4 ∷ 60 ∷ [])) ∷
    (told (file (1 ∷ 2 ∷ 0 ∷ 4 ∷ 60 ∷ [])), feed []) ∷
    []

conversions_right : given conversions ≡ worked conversions
unfolding conversions
conversions_right = refl

-- an import or an export into an area
unfoldable into : Conversion → Conversion
unfolding imported exported importing feed told
into c = c

unfoldable outputs : Table Conversion
unfolding into
outputs =
    -- a file of eleven bytes: into as many, into more, into fewer
    (
      into (imported (feed []) (7 ∷ 0 ∷ []) (replicate 11 9)),
      conversion (accepted 11) (84 ∷ 84 ∷ 71 ∷ 1 ∷ 0 ∷ 1 ∷ 0 ∷ 0 ∷ 0 ∷ 7 ∷ 0 ∷ []),
    ) ∷ (
      into (imported (feed []) (7 ∷ 0 ∷ []) (replicate 13 9)),
      conversion (accepted 11) (84 ∷ 84 ∷ 71 ∷ 1 ∷ 0 ∷ 1 ∷ 0 ∷ 0 ∷ 0 ∷ 7 ∷ 0 ∷ 9 ∷ 9 ∷ []),
    ) ∷
    (into (imported (feed []) (7 ∷ 0 ∷ []) (replicate 10 9)), conversion (refused 32 0) (replicate 10 9)) ∷
    (into (imported (feed []) (7 ∷ 0 ∷ []) []), conversion (refused 32 0) []) ∷
    -- an odd last byte of the list is no stop
    (
      into (imported (feed []) (7 ∷ 0 ∷ 5 ∷ []) (replicate 11 9)),
      conversion (accepted 11) (84 ∷ 84 ∷ 71 ∷ 1 ∷ 0 ∷ 1 ∷ 0 ∷ 0 ∷ 0 ∷ 7 ∷ 0 ∷ []),
    ) ∷
    -- 31 and document 01's numbers come before 32, and change nothing
    (into (imported (feed ("" ∷ [])) (7 ∷ 0 ∷ []) (replicate 10 9)), conversion (refused 31 1) (replicate 10 9)) ∷
    (into (imported (feed []) (61 ∷ 0 ∷ []) (replicate 10 9)), conversion (refused 7 0) (replicate 10 9)) ∷
    (into (imported (feed []) [] (replicate 13 9)), conversion (refused 4 0) (replicate 13 9)) ∷
    -- the text of no row has 58 bytes
    (into (exported (file (1 ∷ 1 ∷ 0 ∷ 7 ∷ [])) (replicate 58 9)), conversion (accepted 58) (feed [])) ∷
    (into (exported (file (1 ∷ 1 ∷ 0 ∷ 7 ∷ [])) (replicate 60 9)), conversion (accepted 58) (feed [] ++ (9 ∷ 9 ∷ []))) ∷
    (into (exported (file (1 ∷ 1 ∷ 0 ∷ 7 ∷ [])) (replicate 57 9)), conversion (refused 32 0) (replicate 57 9)) ∷
    -- a file that is none is refused as by the check, before 32
    (into (exported [] []), conversion (refused 1 0) []) ∷
    (into (exported (file (2 ∷ 1 ∷ 0 ∷ 7 ∷ [])) (replicate 57 9)), conversion (refused 3 0) (replicate 57 9)) ∷
    (into (exported (file (1 ∷ 1 ∷ 0 ∷ 61 ∷ [])) (replicate 60 9)), conversion (refused 7 0) (replicate 60 9)) ∷
    []

outputs_right : given outputs ≡ worked outputs
unfolding outputs
outputs_right = refl

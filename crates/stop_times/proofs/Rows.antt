-- The row of a line: its columns read one after the other, up to the first that cannot be read. Assumes nothing.
use Rattle.std.proofs.Common.{◌≡◌, ℕ, List, drop, Some, None, Option, sym, refl, arith}
use Rattle.decimals.specs.Bytes.{newline}
use Rattle.decimals.specs.Decimal.{decimal}
use Rattle.gtfs.specs.declared.StopTime.{StopTime}
use Rattle.cuts.specs.Cut.{before}
use Rattle.gtfs.specs.Clock.{colon, time_of}
use Rattle.gtfs.specs.StopTimes.{comma, row_from, row_of}
use Rattle.cuts.proofs.Cut.{number_without}
use Rattle.gtfs.proofs.Clock.{clock_without}
use Rattle.cuts.specs.Columns.{column_of}
use Rattle.stop_times.specs.Columns.{line_at}
use Rattle.stop_times.proofs.Lines.{line_from, OneLine, column_then, read_then, unread_then, last_read, last_unread}

-- the row of the columns that are read and of the rest of the line, from stop_sequence, the stop, the departure, the arrival on
abbrev from_sequence : Option ℕ → Option ℕ → Option ℕ → Option ℕ → List ℕ → Option StopTime
from_sequence trip arrival departure stop line = row_from trip arrival departure stop (decimal line)

abbrev from_stop : Option ℕ → Option ℕ → Option ℕ → List ℕ → Option StopTime
from_stop trip arrival departure = column_then decimal (from_sequence trip arrival departure)

abbrev from_departure : Option ℕ → Option ℕ → List ℕ → Option StopTime
from_departure trip arrival = column_then time_of (from_stop trip arrival)

abbrev from_arrival : Option ℕ → List ℕ → Option StopTime
from_arrival trip = column_then time_of (from_departure trip)

-- neither a number nor a time has a newline
number_line_lem : OneLine decimal
number_line_lem = number_without newline refl

time_line : OneLine time_of
time_line = clock_without newline refl (λ (e : newline ≡ colon). omega arith)

-- what is left of a line at a place of a text when the columns before it are read
unfoldable pub after_trip : ℕ → List ℕ → ℕ → Option (StopTime × ℕ)
after_trip trip text a = line_from (from_arrival (Some trip)) (drop a text) a

unfoldable pub after_arrival : ℕ → ℕ → List ℕ → ℕ → Option (StopTime × ℕ)
after_arrival trip arrival text d = line_from (from_departure (Some trip) (Some arrival)) (drop d text) d

unfoldable pub after_departure : ℕ → ℕ → ℕ → List ℕ → ℕ → Option (StopTime × ℕ)
after_departure trip arrival departure text s = line_from (from_stop (Some trip) (Some arrival) (Some departure)) (drop s text) s

unfoldable pub after_stop : ℕ → ℕ → ℕ → ℕ → List ℕ → ℕ → Option (StopTime × ℕ)
after_stop trip arrival departure stop text q =
    line_from (from_sequence (Some trip) (Some arrival) (Some departure) (Some stop)) (drop q text) q

-- a column that is not read: the line is no row; one that is leaves the rest of the line
pub no_trip : (text : List ℕ) (at : ℕ) → None ≡ column_of decimal comma text at → None ≡ line_at text at
unfolding row_of time_of before
no_trip text at is = sym (unread_then decimal from_arrival text at (record { unread = λ line. refl; missing = λ n. refl }) (sym is))

pub trip_read : (text : List ℕ) (at trip a : ℕ) → Some (trip, a) ≡ column_of decimal comma text at
    → after_trip trip text a ≡ line_at text at
unfolding row_of after_trip
trip_read text at trip a is = sym (read_then decimal from_arrival text at number_line_lem (sym is))

module _ (trip : ℕ) where
  pub no_arrival : (text : List ℕ) (at : ℕ) → None ≡ column_of time_of comma text at → None ≡ after_trip trip text at
  unfolding after_trip time_of before
  no_arrival text at is =
      sym (unread_then time_of (from_departure (Some trip)) text at (record { unread = λ line. refl; missing = λ n. refl }) (sym is))

  pub arrival_read : (text : List ℕ) (at arrival d : ℕ) → Some (arrival, d) ≡ column_of time_of comma text at
      → after_arrival trip arrival text d ≡ after_trip trip text at
  unfolding after_trip after_arrival
  arrival_read text at arrival d is = sym (read_then time_of (from_departure (Some trip)) text at time_line (sym is))

  module _ (arrival : ℕ) where
    pub no_departure : (text : List ℕ) (at : ℕ) → None ≡ column_of time_of comma text at → None ≡ after_arrival trip arrival text at
    unfolding after_arrival decimal before
    no_departure text at is =
        sym
        (unread_then time_of (from_stop (Some trip) (Some arrival)) text at
        (record { unread = λ line. refl; missing = λ n. refl })
        (sym is))

    pub departure_read : (text : List ℕ) (at departure s : ℕ) → Some (departure, s) ≡ column_of time_of comma text at
        → after_departure trip arrival departure text s ≡ after_arrival trip arrival text at
    unfolding after_arrival after_departure
    departure_read text at departure s is = sym (read_then time_of (from_stop (Some trip) (Some arrival)) text at time_line (sym is))

    module _ (departure : ℕ) where
      pub no_stop : (text : List ℕ) (at : ℕ) → None ≡ column_of decimal comma text at
          → None ≡ after_departure trip arrival departure text at
      unfolding after_departure decimal
      no_stop text at is =
          sym
          (unread_then decimal (from_sequence (Some trip) (Some arrival) (Some departure)) text at
          (record { unread = λ line. refl; missing = λ n. refl })
          (sym is))

      pub stop_read : (text : List ℕ) (at stop q : ℕ) → Some (stop, q) ≡ column_of decimal comma text at
          → after_stop trip arrival departure stop text q ≡ after_departure trip arrival departure text at
      unfolding after_departure after_stop
      stop_read text at stop q is =
          sym (read_then decimal (from_sequence (Some trip) (Some arrival) (Some departure)) text at number_line_lem (sym is))

      module _ (stop : ℕ) where
        pub no_sequence : (text : List ℕ) (at : ℕ) → None ≡ column_of decimal newline text at
            → None ≡ after_stop trip arrival departure stop text at
        unfolding after_stop
        no_sequence text at is =
            sym (last_unread decimal (row_from (Some trip) (Some arrival) (Some departure) (Some stop)) text at refl (sym is))

        pub sequence_read : (text : List ℕ) (at sequence next : ℕ) → Some (sequence, next) ≡ column_of decimal newline text at
            → Some (record { trip = trip; arrival = arrival; departure = departure; stop = stop; sequence = sequence }, next)
            ≡ after_stop trip arrival departure stop text at
        unfolding after_stop
        sequence_read text at sequence next is =
            sym (last_read decimal (row_from (Some trip) (Some arrival) (Some departure) (Some stop)) text at (sym is))

-- Rows written are read again: a row by its line, rows by their lines, and rows that may follow one another pass. Assumes nothing.
use Rattle.std.proofs.Common.{◌≡◌, ℕ, suc, ◌<◌, ◌≤◌, true, false, List, [], ◌∷◌, ◌++◌, map, Some, refl, ap, ◌∙◌, append_assoc, arith}
use Rattle.decimals.specs.Bytes.{newline}
use Rattle.decimals.specs.Decimal.{max_number, is_digit, decimal_of}
use Rattle.decimals.proofs.Digits.{digits_only, decimal_read}
use Rattle.refusals.specs.Answers.{Passed}
use Rattle.cuts.specs.Cut.{has, pieces, lines_of}
use Rattle.cuts.proofs.Cut.{before_end, after_end, has_append, digits_without, line_more}
use Rattle.gtfs.specs.declared.StopTime.{StopTime}
use Rattle.gtfs.specs.Clock.{colon, time_text}
use Rattle.gtfs.specs.StopTimes.{comma, row_of, row_text}
use Rattle.gtfs.specs.Feed.{may_follow, lines_verdict, rows_in}
use Rattle.gtfs.specs.Rows.{rows_text}
use Rattle.gtfs.proofs.Clock.{time_read, time_without}

-- the first time that two digits of hours cannot tell
abbrev pub times_end : ℕ
times_end = 6000

-- a row whose columns can be written: numbers of 16 bits and times below a hundred hours
pub record RowFits (row : StopTime) : Type 0 where
  pub trip_fits : row.trip ≤ max_number
  pub arrival_fits : row.arrival < times_end
  pub departure_fits : row.departure < times_end
  pub stop_fits : row.stop ≤ max_number
  pub sequence_fits : row.sequence ≤ max_number

-- all of some rows
abbrev pub RowsFit : List StopTime → Type 0
RowsFit [] = Unit {0}
RowsFit (row ∷ rows) = RowFits row × RowsFit rows

-- the line of a row: what stands before its newline
unfoldable pub row_line : StopTime → List ℕ
row_line row =
    decimal_of row.trip
    ++ comma ∷ (time_text row.arrival
    ++ comma ∷ (time_text row.departure ++ comma ∷ (decimal_of row.stop ++ comma ∷ decimal_of row.sequence)))

-- a row written is its line and a newline
pub row_line_lem : (row : StopTime) (rest : List ℕ) → row_text row ++ rest ≡ row_line row ++ newline ∷ rest
unfolding row_text row_line
row_line_lem row rest = simp append_assoc

-- a column and a comma in front of a line
cell_without : (s t : List ℕ) → has newline s ≡ false → has newline t ≡ false → has newline (s ++ comma ∷ t) ≡ false
unfolding has
cell_without s t h k = has_append newline s (comma ∷ t) h k

module _ (row : StopTime) (h : RowFits row) where
  -- the columns are without a byte that is neither a digit nor a colon
  module _ (byte : ℕ) (d : is_digit byte ≡ false) (c : byte ≡ colon → ⊥) where
    number_without : (n : ℕ) → has byte (decimal_of n) ≡ false
    number_without n = digits_without byte (decimal_of n) d (digits_only n)

    arrival_without : has byte (time_text row.arrival) ≡ false
    arrival_without = time_without byte row.arrival h.arrival_fits d c

    departure_without : has byte (time_text row.departure) ≡ false
    departure_without = time_without byte row.departure h.departure_fits d c

  -- a row written is read again
  pub row_read : row_of (row_line row) ≡ Some row
  unfolding row_of row_line
  row_read =
      let line3 = decimal_of row.stop ++ comma ∷ decimal_of row.sequence in
      let line2 = time_text row.departure ++ comma ∷ line3 in
      let line1 = time_text row.arrival ++ comma ∷ line2 in
      let c : comma ≡ colon → ⊥ = omega arith in
      let trip = number_without comma refl c row.trip in
      let arrival = arrival_without comma refl c in
      let departure = departure_without comma refl c in
      let stop = number_without comma refl c row.stop in
      rw (
        after_end comma (decimal_of row.trip) line1 trip,
        after_end comma (time_text row.arrival) line2 arrival,
        after_end comma (time_text row.departure) line3 departure,
        after_end comma (decimal_of row.stop) (decimal_of row.sequence) stop,
        before_end comma (decimal_of row.trip) line1 trip,
        before_end comma (time_text row.arrival) line2 arrival,
        before_end comma (time_text row.departure) line3 departure,
        before_end comma (decimal_of row.stop) (decimal_of row.sequence) stop,
        decimal_read row.trip h.trip_fits,
        time_read row.arrival h.arrival_fits,
        time_read row.departure h.departure_fits,
        decimal_read row.stop h.stop_fits,
        decimal_read row.sequence h.sequence_fits,
      )

  -- no newline stands inside
  pub row_without : has newline (row_line row) ≡ false
  unfolding row_line
  row_without =
      let c : newline ≡ colon → ⊥ = omega arith in
      let number = number_without newline refl c in
      cell_without _ _ (number row.trip)
      (cell_without _ _ (arrival_without newline refl c)
      (cell_without _ _ (departure_without newline refl c) (cell_without _ _ (number row.stop) (number row.sequence))))

-- rows written are their lines, and nothing after the last newline
pub lines_written : (rows : List StopTime) → RowsFit rows → lines_of (rows_text rows) ≡ map row_line rows ++ ([] ∷ [])
unfolding pieces rows_text
lines_written [] h = refl
lines_written (row ∷ rows) h =
    ap lines_of (row_line_lem row (rows_text rows))
    ∙ line_more (row_line row) (rows_text rows) (row_without row h.0)
    ∙ ap (◌∷◌ (row_line row)) (lines_written rows h.1)

-- and are read again
lines_read : (rows : List StopTime) → RowsFit rows → rows_in (map row_line rows ++ ([] ∷ [])) ≡ rows
unfolding rows_in
lines_read [] h = refl
lines_read (row ∷ []) h = rw (row_read row h.0)
lines_read (row ∷ next ∷ rows) h = rw (row_read row h.0) (ap (◌∷◌ row) (lines_read (next ∷ rows) h.1))

pub rows_read : (rows : List StopTime) → RowsFit rows → rows_in (lines_of (rows_text rows)) ≡ rows
rows_read rows h = ap rows_in (lines_written rows h) ∙ lines_read rows h

-- each of some rows may come next, where so many trips have begun, the last row with this stop_sequence
abbrev pub Follow : ℕ → ℕ → List StopTime → Type 0
Follow trips sequence [] = Unit {0}
Follow trips sequence (row ∷ rows) = (may_follow trips sequence row ≡ true) × Follow (suc row.trip) row.sequence rows

lines_pass : (k trips sequence : ℕ) (rows : List StopTime) → RowsFit rows → Follow trips sequence rows
    → lines_verdict k trips sequence (map row_line rows ++ ([] ∷ [])) ≡ Passed
unfolding lines_verdict
lines_pass k trips sequence [] h m = refl
lines_pass k trips sequence (row ∷ []) h m = rw (row_read row h.0, m.0)
lines_pass k trips sequence (row ∷ next ∷ rows) h m =
    rw (row_read row h.0, m.0) (lines_pass (suc k) (suc row.trip) row.sequence (next ∷ rows) h.1 m.1)

-- rows that may follow one another pass
pub rows_pass : (k trips sequence : ℕ) (rows : List StopTime) → RowsFit rows → Follow trips sequence rows
    → lines_verdict k trips sequence (lines_of (rows_text rows)) ≡ Passed
rows_pass k trips sequence rows h m = ap (lines_verdict k trips sequence) (lines_written rows h) ∙ lines_pass k trips sequence rows h m

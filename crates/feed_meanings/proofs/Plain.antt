-- The text of a timetable is what an export has to give: the first line, then its rows as they are to be written. Assumes nothing.
use Rattle.std.proofs.Common.{◌≡◌, ℕ, ◌<◌, ◌≤◌, List, [], ◌∷◌, length, refl, ap, ⊎_elim, arith, length-append}
use Rattle.decimals.specs.Decimal.{decimal_of}
use Rattle.decimals.proofs.Digits.{decimal_one, decimal_read, no_leading_zero}
use Rattle.timetable.specs.Accepted.{Timetable}
use Rattle.timetable.proofs.Tests.{by_lt}
use Rattle.gtfs.specs.Clock.{time_text}
use Rattle.gtfs.specs.Rows.{rows_text, timetable_rows, text_of}
use Rattle.gtfs.specs.declared.StopTime.{StopTime}
use Rattle.gtfs.proofs.Clock.{length_time, time_read}
use Rattle.gtfs.proofs.RowsRead.{times_end, RowFits, RowsFit, row_line, row_line_lem}
use Rattle.round_trips.proofs.TimetableRows.{whole_fits, text_rows, text_passes}
use Rattle.feed_meanings.specs.Words.{IsDecimal, IsTime, IsRow}
use Rattle.feed_meanings.specs.Texts.{GoodText}
use Rattle.feed_meanings.specs.Exports.{NoLeadingZero, PlainRow, PlainLines, no_line, line_first, ExportedText}
use Rattle.feed_meanings.proofs.Words.{decimal_iff, time_iff}
use Rattle.feed_meanings.proofs.Texts.{good_iff}
use Rattle.feed_meanings.proofs.Exports.{exported_rows}

-- a number written
plain : (n : ℕ) → NoLeadingZero (decimal_of n)
plain n =
    ⊎_elim
    (λ (l : n < 10) h. let e = ap length (decimal_one n l) in absurd (omega arith))
    (λ (l : 10 ≤ n) h. no_leading_zero n (omega arith))
    (by_lt n 10)

number_written : (n : ℕ) → n ≤ 65535 → IsDecimal (decimal_of n) n
number_written n h = (decimal_iff (decimal_of n) n).0 (decimal_read n h)

-- a time written
time_written : (t : ℕ) → t < times_end → IsTime (time_text t) t
time_written t h = (time_iff (time_text t) t).0 (time_read t h)

two_hours : {t : ℕ} (d : IsTime (time_text t) t) → length d.hours ≡ 2
two_hours {t} d = let e = simp length-append at (ap length d.word) in omega (arith, length_time t)

-- a row written
row_written : (row : StopTime) → RowFits row → PlainRow (row_line row) row
unfolding row_line
row_written row h =
    let arrival = time_written row.arrival h.arrival_fits in
    let departure = time_written row.departure h.departure_fits in
    let is_row_lem : IsRow (row_line row) row = record {
      trip_word = decimal_of row.trip;
      arrival_word = time_text row.arrival;
      departure_word = time_text row.departure;
      stop_word = decimal_of row.stop;
      sequence_word = decimal_of row.sequence;
      columns = refl;
      trip = number_written row.trip h.trip_fits;
      arrival = arrival;
      departure = departure;
      stop = number_written row.stop h.stop_fits;
      sequence = number_written row.sequence h.sequence_fits;
    } in record {
      is_row_lem = is_row_lem;
      trip_plain = plain row.trip;
      stop_plain = plain row.stop;
      sequence_plain = plain row.sequence;
      arrival_hours = two_hours arrival;
      departure_hours = two_hours departure;
    }

-- rows written
rows_written : (rows : List StopTime) → RowsFit rows → PlainLines (rows_text rows) rows
unfolding rows_text
rows_written [] h = no_line
rows_written (row ∷ rows) h = rw (row_line_lem row (rows_text rows)) (line_first (row_written row h.0) (rows_written rows h.1))

module _ (f : List ℕ) (t : Timetable f) where
  -- the text of a timetable, sentence by sentence
  pub exported_text : ExportedText f (text_of f)
  unfolding text_of
  exported_text =
      record {
        rows = timetable_rows f;
        body = rows_text (timetable_rows f);
        header = refl;
        lines = rows_written (timetable_rows f) (whole_fits f t);
        exported = exported_rows f t;
      }

  -- it is one that is accepted
  pub exported_good : GoodText (text_of f) (timetable_rows f)
  exported_good = (good_iff (text_of f) (timetable_rows f)).0 (text_passes f t, text_rows f t)

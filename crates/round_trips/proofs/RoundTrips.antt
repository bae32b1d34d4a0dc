-- The round trip: the text of a timetable, imported with its transfer times, gives the timetable again. So a timetable is told by its
-- text and its transfer times, and what an import gives is given again by the import of its export. Assumes nothing.
use Rattle.std.proofs.Common.{◌≡◌, ℕ, ◌≤◌, List, length, take, sym, ap, ◌∙◌, ap₂, le-ltb, le-leb}
use Rattle.numbers.specs.Numbers.{numbers_of}
use Rattle.numbers.proofs.Areas.{Bytes}
use Rattle.numbers.proofs.Bytes.{numbers_bytes}
use Rattle.refusals.specs.Answers.{accepted, Passed}
use Rattle.timetable.specs.File.{stops, connections}
use Rattle.timetable.specs.Check.{max_stops, max_connections, file_verdict}
use Rattle.timetable.specs.Accepted.{Timetable}
use Rattle.timetable.proofs.Order.{else_passed}
use Rattle.timetable.proofs.Accepted.{accepted_iff}
use Rattle.gtfs.specs.Feed.{connections_of, text_verdict}
use Rattle.gtfs.specs.Files.{file_of, transfers_in}
use Rattle.gtfs.specs.Rows.{text_of}
use Rattle.gtfs.specs.Conversions.{counts_verdict, text_connections, imported_file, import_verdict, imported, exported}
use Rattle.gtfs.proofs.FileNumbers.{file_transfers, file_bytes}
use Rattle.gtfs.proofs.Conversions.{converted_done, accepted_passed, accepted_bytes}
use Rattle.gtfs.proofs.Transfers.{count_transfers}
use Rattle.round_trips.specs.Connections.{connections_in}
use Rattle.round_trips.specs.Given.{giving}
use Rattle.round_trips.proofs.TimetableRows.{text_rows, text_passes, rows_connections}
use Rattle.round_trips.proofs.TimetableFile.{length_connections, file_again}

-- an export that is accepted is of a timetable, and its bytes are the timetable's text
module _ (f area : List ℕ) (n : ℕ) (e : (exported f area).answer ≡ accepted n) where
  pub exported_timetable : Timetable f
  unfolding exported
  exported_timetable = (accepted_iff f).0 (accepted_passed (file_verdict f) (text_of f) area n e)

  pub exported_text : take n (exported f area).output ≡ text_of f
  unfolding exported
  exported_text = accepted_bytes (file_verdict f) (text_of f) area n e

-- and one of a timetable into an area that has room is accepted
pub export_gives : (f area : List ℕ) → Timetable f → length (text_of f) ≤ length area → exported f area ≡ giving (text_of f) area
unfolding exported
export_gives f area t l = sym (converted_done (text_of f) area ((accepted_iff f).1 t) l)

module _ (f : List ℕ) (t : Timetable f) (b : Bytes f) where
  text_connections_lem : text_connections (text_of f) ≡ connections_in f
  text_connections_lem = ap connections_of (text_rows f t) ∙ rows_connections f t

  -- the file of a timetable's text and transfer times is the timetable
  pub file_back : imported_file (text_of f) (transfers_in f) ≡ f
  file_back = ap (file_of (numbers_of (transfers_in f))) text_connections_lem ∙ file_again f t b

  -- and is not refused
  pub passes_back : import_verdict (text_of f) (transfers_in f) ≡ Passed
  unfolding import_verdict
  passes_back =
      rw (
        text_passes f t,
        count_transfers f t,
        text_connections_lem,
        length_connections f 0 (connections f),
        le-leb 1 (stops f) t.some_stops,
        le-leb (stops f) max_stops t.few_stops,
        le-ltb max_connections (connections f) t.few,
        file_again f t b,
        (accepted_iff f).1 t,
      )

  -- an import of them, into an area that has room, gives the timetable
  pub import_back : (output : List ℕ) → length f ≤ length output → imported (text_of f) (transfers_in f) output ≡ giving f output
  unfolding imported
  import_back output l = rw file_back (sym (converted_done f output passes_back l))

-- the round trip: the bytes of an export, as many as it answers, imported with the file's transfer times give the file
pub round_trip : (f : List ℕ) → Bytes f → (area : List ℕ) (n : ℕ) → (exported f area).answer ≡ accepted n
    → (output : List ℕ) → length f ≤ length output → imported (take n (exported f area).output) (transfers_in f) output ≡ giving f output
round_trip f b area n e output l = rw (exported_text f area n e) (import_back f (exported_timetable f area n e) b output l)

-- two timetables with the same text and the same transfer times are the same
pub same_file : (f g : List ℕ) → Timetable f → Timetable g → Bytes f → Bytes g → text_of f ≡ text_of g → transfers_in f ≡ transfers_in g → f ≡ g
same_file f g s t b c e d = sym (file_back f s b) ∙ ap₂ imported_file e d ∙ file_back g t c

-- an import looks at the numbers of its transfer times alone
same_import : (text change other output : List ℕ) → numbers_of change ≡ numbers_of other
    → imported text change output ≡ imported text other output
unfolding imported import_verdict
same_import text change other output e = rw e

-- an import that is not refused: its file
module _ (text change : List ℕ) (h : import_verdict text change ≡ Passed) where
  -- is a timetable
  pub import_timetable : Timetable (imported_file text change)
  unfolding import_verdict
  import_timetable =
      let counts = counts_verdict (length (numbers_of change)) (length (text_connections text)) in
      let verdict = file_verdict (imported_file text change) in
      (accepted_iff (imported_file text change)).0
      ((else_passed verdict Passed).0 ((else_passed counts _).0 ((else_passed (text_verdict text) _).0 h).1).1).0

  -- of bytes
  pub import_bytes : Bytes (imported_file text change)
  import_bytes = file_bytes (numbers_of change) (text_connections text) import_timetable

  -- with the transfer times that it was made of
  import_transfers : numbers_of (transfers_in (imported_file text change)) ≡ numbers_of change
  import_transfers = ap numbers_of (file_transfers (numbers_of change) (text_connections text)) ∙ numbers_bytes (numbers_of change)

  -- and the bytes of its export, imported with the same transfer times, give it again
  pub import_again : (area : List ℕ) (n : ℕ) → (exported (imported_file text change) area).answer ≡ accepted n
      → (output : List ℕ) → length (imported_file text change) ≤ length output
      → imported (take n (exported (imported_file text change) area).output) change output ≡ giving (imported_file text change) output
  import_again area n e output l =
      let f = imported_file text change in
      same_import (take n (exported f area).output) change (transfers_in f) output (sym import_transfers)
      ∙ round_trip f import_bytes area n e output l

-- the same of three calls: f is the bytes of an import, as many as it answers
pub calls_again : (text change first : List ℕ) (m : ℕ) → (imported text change first).answer ≡ accepted m
    → (f : List ℕ) → f ≡ take m (imported text change first).output
    → (area : List ℕ) (n : ℕ) → (exported f area).answer ≡ accepted n
    → (output : List ℕ) → length f ≤ length output → imported (take n (exported f area).output) change output ≡ giving f output
unfolding imported
calls_again text change first m e f d =
    let verdict = import_verdict text change in
    let file = imported_file text change in
    rw (d ∙ accepted_bytes verdict file first m e) (import_again text change (accepted_passed verdict file first m e))

-- What an import is refused with, refusal by refusal. Assumes nothing.
use Rattle.std.proofs.Common.{◌≡◌, ℕ, ◌<◌, ◌≤◌, List, length, arith, le-ltb, lt-ltb, le-leb}
use borrow.Author.Tests.{lt-leb}
use Rattle.refusals.specs.RefusalNumber as refusal
use Rattle.numbers.specs.Numbers.{numbers_of}
use Rattle.timetable.specs.Check.{max_stops, max_connections, file_verdict}
use Rattle.refusals.specs.Answers.{Passed, Refused}
use Rattle.timetable.proofs.Order.{or_passed}
use Rattle.gtfs.specs.Feed.{text_verdict}
use Rattle.gtfs.specs.Conversions.{counts_verdict, text_connections, imported_file, import_verdict}

-- how many stops and connections
module _ (stops connections : ℕ) where
  pub no_stops : stops < 1 → counts_verdict stops connections ≡ Refused refusal.wrong_stop_count 0
  no_stops h = rw (lt-leb 1 stops h)

  pub many_stops : max_stops < stops → counts_verdict stops connections ≡ Refused refusal.wrong_stop_count 0
  many_stops h = rw (le-leb 1 stops (omega arith), lt-leb stops max_stops h)

  module _ (some : 1 ≤ stops) (few : stops ≤ max_stops) where
    pub many_connections : max_connections < connections → counts_verdict stops connections ≡ Refused refusal.wrong_connection_count 0
    many_connections h = rw (le-leb 1 stops some, le-leb stops max_stops few, lt-ltb max_connections connections h)

    pub counts_pass : connections ≤ max_connections → counts_verdict stops connections ≡ Passed
    counts_pass h = rw (le-leb 1 stops some, le-leb stops max_stops few, le-ltb max_connections connections h)

-- the text first, then the counts, then the file
module _ (text change : List ℕ) where
  pub text_refused : {n p : ℕ} → text_verdict text ≡ Refused n p → import_verdict text change ≡ Refused n p
  unfolding import_verdict
  text_refused e = rw e

  module _ (e : text_verdict text ≡ Passed) where
    pub counts_refused : {n p : ℕ} → counts_verdict (length (numbers_of change)) (length (text_connections text)) ≡ Refused n p
        → import_verdict text change ≡ Refused n p
    unfolding import_verdict
    counts_refused d = rw (e, d)

    pub file_decides : counts_verdict (length (numbers_of change)) (length (text_connections text)) ≡ Passed
        → import_verdict text change ≡ file_verdict (imported_file text change)
    unfolding import_verdict
    file_decides d = rw (e, d, or_passed)

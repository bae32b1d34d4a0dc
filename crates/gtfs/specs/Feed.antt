-- A text of rows: which one is refused with 31, at which row, and the connections that its rows make. Assumes nothing.
use Rattle.std.specs.Prelude.{Bool, false, cond, not, is_some, ◌&&◌, ◌||◌, List, [], ◌∷◌, ℕ, suc, ltb, eqb, length, drop}
use Rattle.refusals.specs.Answers.{refuse_if, or_else, Verdict, Passed, Refused}
use Rattle.cuts.specs.Cut.{starts_with, lines_of}
use Rattle.gtfs.specs.declared.StopTime.{StopTime}
use Rattle.refusals.specs.RefusalNumber as refusal
use Rattle.gtfs.specs.StopTimes.{header_text, row_of, row_in}

-- whether a row may come next where so many trips have begun, the last row with this stop_sequence: it begins the next trip, or goes on
-- in the one begun last with a higher stop_sequence
abbrev pub may_follow : ℕ → ℕ → StopTime → Bool
may_follow trips sequence row = eqb row.trip trips || (eqb (suc row.trip) trips && ltb sequence row.sequence)

-- 31 at the first line that is no row that may follow: lines from row k on, where so many trips have begun, the last row with this
-- stop_sequence. What stands after the last newline must be nothing: a row that no newline ends is none.
unfoldable pub lines_verdict : ℕ → ℕ → ℕ → List (List ℕ) → Verdict
lines_verdict k trips sequence [] = Passed
lines_verdict k trips sequence (l ∷ []) = refuse_if (not (eqb (length l) 0)) refusal.wrong_text_row k
lines_verdict k trips sequence (l ∷ m ∷ ls) =
    let row = row_in (row_of l) in
    or_else (refuse_if (not (is_some (row_of l) && may_follow trips sequence row)) refusal.wrong_text_row k)
    (lines_verdict (suc k) (suc row.trip) row.sequence (m ∷ ls))

-- the rows of some lines: each is one but what stands after the last newline
unfoldable pub rows_in : List (List ℕ) → List StopTime
rows_in [] = []
rows_in (l ∷ []) = []
rows_in (l ∷ m ∷ ls) = row_in (row_of l) ∷ rows_in (m ∷ ls)

-- two rows of one trip
abbrev pub same_trip : StopTime → StopTime → Bool
same_trip row next = eqb row.trip next.trip

-- 31 at the first row alone in its trip, of rows from row k on; whether row k has the trip of the row before it
unfoldable pub alone_verdict : ℕ → Bool → List StopTime → Verdict
alone_verdict k joined [] = Passed
alone_verdict k joined (row ∷ []) = refuse_if (not joined) refusal.wrong_text_row k
alone_verdict k joined (row ∷ next ∷ rows) =
    or_else (refuse_if (not (joined || same_trip row next)) refusal.wrong_text_row k) (alone_verdict (suc k) (same_trip row next) (next ∷ rows))

-- what stands after the first line of a text
abbrev pub body_of : List ℕ → List ℕ
body_of text = drop (length header_text) text

-- the rows of a text
abbrev pub rows_of : List ℕ → List StopTime
rows_of text = rows_in (lines_of (body_of text))

-- refusal 31: the first line is row 0; the first row that is not as it has to be, else the first alone in its trip
unfoldable pub text_verdict : List ℕ → Verdict
text_verdict text =
    cond (starts_with header_text text) (or_else (lines_verdict 1 0 0 (lines_of (body_of text))) (alone_verdict 1 false (rows_of text)))
    (Refused refusal.wrong_text_row 0)

-- a connection of a timetable, in the order of the file's numbers
pub record Connection : Type 0 where
  pub trip : ℕ
  pub from : ℕ
  pub to : ℕ
  pub departure : ℕ
  pub arrival : ℕ

-- the connection of two neighbouring rows of a trip
abbrev pub connection_of : StopTime → StopTime → Connection
connection_of row next =
    record { trip = row.trip; from = row.stop; to = next.stop; departure = row.departure; arrival = next.arrival }

-- the connections of rows: one for each two neighbouring rows of a trip
unfoldable pub connections_of : List StopTime → List Connection
connections_of [] = []
connections_of (row ∷ []) = []
connections_of (row ∷ next ∷ rows) =
    cond (same_trip row next) (connection_of row next ∷ connections_of (next ∷ rows)) (connections_of (next ∷ rows))

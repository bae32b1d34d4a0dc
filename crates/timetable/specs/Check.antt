-- The check of a timetable file: refusals 1 to 11 in their order, each with its place. Assumes nothing.
use Rattle.std.specs.Prelude.{Bool, false, not, ◌&&◌, ◌||◌, List, [], ◌∷◌, ℕ, zero, suc, ltb, leb, eqb, length}
use Rattle.refusals.specs.Answers.{Answer, refuse_if, or_else, first_refusal, first_below, answering, Verdict}
use Rattle.timetable.specs.File.{header_length, file_length, marked, version, stops, connections, transfer_time, trip, from, to, scheduled_departure, scheduled_arrival, stays_aboard}
use Rattle.refusals.specs.RefusalNumber as refusal
use Rattle.timetable.specs.declared.Counts.{Counts}

abbrev pub format_version : ℕ
format_version = 1

abbrev pub max_stops : ℕ
max_stops = 500

abbrev pub max_connections : ℕ
max_connections = 2000

abbrev pub max_transfer_time : ℕ
max_transfer_time = 60

-- the last minute at which a connection may arrive by the timetable
abbrev pub last_scheduled : ℕ
last_scheduled = 4319

-- refusals 1 to 6
unfoldable pub header_verdict : List ℕ → Verdict
header_verdict f =
    first_refusal
    (refuse_if (ltb (length f) header_length) refusal.short_file 0 ∷
    refuse_if (not (marked f)) refusal.wrong_mark 0 ∷
    refuse_if (not (eqb (version f) format_version)) refusal.wrong_version 0 ∷
    refuse_if (not (leb 1 (stops f) && leb (stops f) max_stops)) refusal.wrong_stop_count 0 ∷
    refuse_if (ltb max_connections (connections f)) refusal.wrong_connection_count 0 ∷
    refuse_if (not (eqb (length f) (file_length (stops f) (connections f)))) refusal.wrong_length 0 ∷
    [])

-- refusal 7, at the stop
unfoldable pub stop_verdict : List ℕ → ℕ → Verdict
stop_verdict f s = refuse_if (ltb max_transfer_time (transfer_time f s)) refusal.wrong_transfer_time s

-- 8: from and to differ and are stops
unfoldable pub wrong_stops : List ℕ → ℕ → Bool
wrong_stops f c = leb (stops f) (from f c) || leb (stops f) (to f c) || eqb (from f c) (to f c)

-- 9: trip 0 first, then the trip of the connection before or one more
unfoldable pub wrong_trip : List ℕ → ℕ → Bool
wrong_trip f zero = not (eqb (trip f zero) 0)
wrong_trip f (suc c) = not (eqb (trip f (suc c)) (trip f c) || eqb (trip f (suc c)) (suc (trip f c)))

-- 10: departure before arrival, arrival within the timetable
unfoldable pub wrong_times : List ℕ → ℕ → Bool
wrong_times f c = leb (scheduled_arrival f c) (scheduled_departure f c) || ltb last_scheduled (scheduled_arrival f c)

-- connection c starts elsewhere or earlier than connection b arrives
abbrev pub breaks_off : List ℕ → ℕ → ℕ → Bool
breaks_off f b c = not (eqb (from f c) (to f b)) || ltb (scheduled_departure f c) (scheduled_arrival f b)

-- 11: within a trip, a connection starts where and not before the one before it arrives
unfoldable pub wrong_join : List ℕ → ℕ → Bool
wrong_join f zero = false
wrong_join f (suc c) = stays_aboard f (suc c) && breaks_off f c (suc c)

-- refusals 8 to 11, at the connection
unfoldable pub connection_verdict : List ℕ → ℕ → Verdict
connection_verdict f c =
    first_refusal
    (refuse_if (wrong_stops f c) refusal.wrong_stops c ∷
    refuse_if (wrong_trip f c) refusal.wrong_trip c ∷
    refuse_if (wrong_times f c) refusal.wrong_times c ∷
    refuse_if (wrong_join f c) refusal.wrong_join c ∷
    [])

-- refusals 7 to 11: stop by stop, connection by connection
abbrev pub body_verdict : List ℕ → Verdict
body_verdict f = first_refusal (first_below (stop_verdict f) (stops f) ∷ first_below (connection_verdict f) (connections f) ∷ [])

-- refusals 1 to 11
unfoldable pub file_verdict : List ℕ → Verdict
file_verdict f = or_else (header_verdict f) (body_verdict f)

-- the counts of a timetable
abbrev pub counts_of : List ℕ → Counts
counts_of f = record { stops = stops f; connections = connections f }

-- what checking a file answers
abbrev pub checked_answer : List ℕ → Answer Counts
checked_answer f = answering (file_verdict f) (counts_of f)

-- The check of small files, computed: files that are accepted, and some for each refusal, with the numbers of document 01
-- written out. Assumes nothing.
use Rattle.std.proofs.Common.{◌≡◌, ℕ, List, [], ◌∷◌, ◌++◌, map, refl}
use Rattle.refusals.specs.Answers.{first_below, Passed, Refused}
use Rattle.timetable.specs.File.{transfer_time, trip, from, to, scheduled_departure, scheduled_arrival, stays_aboard}
use Rattle.timetable.specs.Check.{header_verdict, stop_verdict, wrong_stops, wrong_trip, wrong_times, wrong_join, connection_verdict, file_verdict}

-- the mark, then version v
abbrev start : ℕ → List ℕ
start v = 84 ∷ 84 ∷ 71 ∷ v ∷ 0 ∷ []

-- a number below 256
abbrev low : ℕ → List ℕ
low n = n ∷ 0 ∷ []

-- a connection of trip t from a to b, with its departure and arrival
abbrev connection : ℕ → ℕ → ℕ → List ℕ → List ℕ → List ℕ
connection t a b d r = low t ++ low a ++ low b ++ d ++ r

-- minute 4,319, the last, and the one after it
abbrev last : List ℕ
last = 223 ∷ 16 ∷ []

abbrev late : List ℕ
late = 224 ∷ 16 ∷ []

-- a file of two stops
abbrev two : ℕ → List ℕ → List ℕ
two n cs = start 1 ++ low 2 ++ low n ++ low 0 ++ low 60 ++ cs

-- no connection; two of one trip, to the last minute, and one of the next
accepts : map
    file_verdict
    (two 0 [] ∷ two 3 (connection 0 0 1 (low 5) (low 9) ++ connection 0 1 0 (low 9) last ++ connection 1 0 1 (low 1) (low 2)) ∷ []) ≡ (Passed ∷ Passed ∷ [])
unfolding file_verdict header_verdict stop_verdict connection_verdict wrong_stops wrong_trip wrong_times wrong_join stays_aboard transfer_time trip from to scheduled_departure scheduled_arrival first_below
accepts = refl

-- 1 to 6; 4 and 5 at one too many
refuses_headers : map
    file_verdict
    ((start 1 ++ low 1) ∷
    (84 ∷ 71 ∷ 84 ∷ 1 ∷ 0 ∷ low 1 ++ low 0) ∷
    (start 2 ++ low 1 ++ low 0) ∷
    (start 1 ++ low 0 ++ low 0) ∷
    (start 1 ++ (245 ∷ 1 ∷ []) ++ low 0) ∷
    (start 1 ++ low 1 ++ (209 ∷ 7 ∷ [])) ∷
    two 0 (0 ∷ []) ∷
    []) ≡ (Refused 1 0 ∷ Refused 2 0 ∷ Refused 3 0 ∷ Refused 4 0 ∷ Refused 4 0 ∷ Refused 5 0 ∷ Refused 6 0 ∷ [])
unfolding file_verdict header_verdict
refuses_headers = refl

-- 7 to 11, most where later ones hold too or at one too many
refuses_bodies : map
    file_verdict
    ((start 1 ++ low 2 ++ low 0 ++ low 60 ++ low 61) ∷
    two 1 (connection 1 1 1 (low 5) (low 5)) ∷
    two 1 (connection 1 0 2 (low 5) (low 5)) ∷
    two 1 (connection 1 0 1 (low 5) (low 5)) ∷
    two 2 (connection 0 0 1 (low 5) (low 9) ++ connection 2 0 1 (low 5) (low 5)) ∷
    two 1 (connection 0 0 1 (low 5) (low 5)) ∷
    two 2 (connection 0 0 1 (low 5) (low 9) ++ connection 0 0 1 (low 5) late) ∷
    two 2 (connection 0 0 1 (low 5) (low 9) ++ connection 0 0 1 (low 9) (low 10)) ∷
    two 2 (connection 0 0 1 (low 5) (low 9) ++ connection 0 1 0 (low 8) (low 10)) ∷
    []) ≡
    (Refused 7 1 ∷
    Refused 8 0 ∷
    Refused 8 0 ∷
    Refused 9 0 ∷
    Refused 9 1 ∷
    Refused 10 0 ∷
    Refused 10 1 ∷
    Refused 11 1 ∷
    Refused 11 1 ∷
    [])
unfolding file_verdict header_verdict stop_verdict connection_verdict wrong_stops wrong_trip wrong_times wrong_join stays_aboard transfer_time trip from to scheduled_departure scheduled_arrival first_below
refuses_bodies = refl

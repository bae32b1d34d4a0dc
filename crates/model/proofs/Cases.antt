-- Cases worked by hand from the rules, on example J and on small timetables of their own, as rows of one table under one claim. Each
-- row has what the definitions of the operations give and the numbers that were worked out. Assumes nothing.
use Rattle.std.proofs.Common.{◌≡◌, ℕ, zero, suc, ◌*◌, Bool, true, cond, List, [], ◌∷◌, ◌++◌, take, replicate, refl}
use lib.IntN.{ℤ, pos, negsuc}
use Rattle.refusals.specs.Answers.{Answer, accepted, refused, first_below}
use Rattle.timetable.specs.File.{connections, transfer_time, trip, from, to, scheduled_departure, scheduled_arrival, stays_aboard}
use Rattle.timetable.specs.Check.{header_verdict, stop_verdict, wrong_stops, wrong_trip, wrong_times, wrong_join, connection_verdict, file_verdict}
use Rattle.model.specs.Least.{none, least_below, tab}
use Rattle.model.specs.Notices.{notice, room, notices_length, flat, cut, area_of, rows_of, some, stands, stands_elsewhere, struck, inserted, entered, stands_right, unused_right, rows_from, rows_verdict}
use Rattle.model.specs.declared.Notice.{Notice}
use Rattle.model.specs.declared.PrimaryDelay.{PrimaryDelay}
use Rattle.model.specs.Times.{prevails, with_notice, primary_delay, expected_departure, expected_arrival, network_of}
use Rattle.model.specs.Graph.{first_on, waiting, transfer_to, first_departure, times, graph_of}
use Rattle.model.specs.Journeys.{can_be_first, can_follow}
use Rattle.model.specs.Predecessors.{choose, rounds, predecessors, follow, arriving, last_to, nowhere, journey_in}
use Rattle.model.specs.Margin.{margin_of}
use Rattle.model.specs.Day.{day_of, lent}
use Rattle.model.specs.Drawn.{graph_length, graph_for, same}
use Rattle.model.specs.Parts.{part_verdict}
use Rattle.model.specs.Operations.{Outcome, written, built, changed, posted, Enquiry, enquired, margined, why_verdict, explained}
use Rattle.model.specs.Register.{Call, posting, withdrawal, has, has_elsewhere, corrected, without, register_step, kept}
use Rattle.model.specs.Runs.{Run, ran, run_of, register_of}
use Rattle.model.specs.Example.{example_j, file_of, in_bytes}
use Rattle.model.proofs.Instances.{Row, right, told}

-- a timetable built on areas that hold sevens and have one number too many, with these calls worked
unfoldable pub run : List ℕ → List Call → Run
run f calls = run_of (day_of f) (lent (replicate (suc notices_length) 7) (replicate (suc (graph_length f)) 7)) calls

-- the times of every connection after these calls
unfoldable pub times_in : List ℕ → List Call → List ℕ
times_in f calls = take (2 * connections f) (run f calls).areas.graph

-- answers as numbers: 0 and the notice number, or the refusal's number and place
unfoldable pub answers_told : List (Answer ℕ) → List ℕ
answers_told [] = []
answers_told (accepted n ∷ rest) = 0 ∷ n ∷ answers_told rest
answers_told (refused n p ∷ rest) = n ∷ p ∷ answers_told rest

-- an enquiry in whole: its answer, the predecessors in an area of nines, the journey in one of eights, each one number longer
-- than there are connections
unfoldable pub whole : Enquiry → List ℕ
whole e = told e.answer ++ e.work ++ e.journey

unfoldable pub enquiry_in : List ℕ → List Call → ℕ → ℕ → ℕ → List ℕ
enquiry_in f calls a b t =
    whole (enquired (day_of f) (run f calls).areas (replicate (suc (connections f)) 9) (replicate (suc (connections f)) 8) a b t)

-- a margin as numbers: 0, 1 for a minus, and its size; or the refusal's number and place
unfoldable pub spare : Answer ℤ → List ℕ
spare (accepted (pos n)) = 0 ∷ 0 ∷ n ∷ []
spare (accepted (negsuc n)) = 0 ∷ 1 ∷ suc n ∷ []
spare (refused n p) = n ∷ p ∷ []

unfoldable pub margin_in : List ℕ → List Call → ℕ → ℕ → List ℕ
margin_in f calls c d = spare (margined (day_of f) (run f calls).areas c d)

-- why as numbers: 0, the delay and the notice; or the refusal's number and place
unfoldable pub why_told : Answer PrimaryDelay → List ℕ
why_told (accepted p) = 0 ∷ p.delay ∷ p.notice ∷ []
why_told (refused n p) = n ∷ p ∷ []

unfoldable pub why_in : List ℕ → List Call → ℕ → List ℕ
why_in f calls c = why_told (explained f (run f calls).areas.notices c)

-- why of each of so many connections, the last first
unfoldable pub why_each : List ℕ → List Call → ℕ → List ℕ
why_each f calls zero = []
why_each f calls (suc c) = why_in f calls c ++ why_each f calls c

-- whether each of these tests passes
unfoldable pub tests : List Bool → List ℕ
tests [] = []
tests (b ∷ bs) = cond b 1 0 ∷ tests bs

-- notices for connection 0 by a minute each: so many, numbered from k on
unfoldable pub notices : ℕ → ℕ → List Notice
notices k zero = []
notices k (suc m) = notice k 0 1 ∷ notices (suc k) m

-- a timetable with 200 notices for connection 0, numbered from 1 on, and one more posted: the answer, and the notice area
unfoldable pub with_full : List ℕ → ℕ → ℕ → ℕ → Outcome ℕ
with_full f n c d = posted (day_of f) (written (day_of f) (lent [] []) (notices 1 room)) n c d

unfoldable pub full_told : Outcome ℕ → List ℕ
full_told o = answers_told (o.answer ∷ []) ++ o.areas.notices

-- departures in one minute
unfoldable pub same_minute : List ℕ
unfolding in_bytes
same_minute =
    file_of
    (1 ∷ 2 ∷ 3 ∷
    0 ∷ 0 ∷
    0 ∷ 0 ∷ 1 ∷ 100 ∷ 120 ∷
    1 ∷ 0 ∷ 1 ∷ 100 ∷ 110 ∷
    2 ∷ 1 ∷ 0 ∷ 110 ∷ 130 ∷
    [])

-- later departures that arrive earlier
unfoldable pub overtaking : List ℕ
unfolding in_bytes
overtaking =
    file_of
    (1 ∷ 2 ∷ 3 ∷
    3 ∷ 4 ∷
    0 ∷ 0 ∷ 1 ∷ 200 ∷ 260 ∷
    1 ∷ 0 ∷ 1 ∷ 210 ∷ 240 ∷
    2 ∷ 0 ∷ 1 ∷ 215 ∷ 240 ∷
    [])

-- one trip that calls at stop 1 twice; the minimum transfer time there is given
unfoldable pub loop : ℕ → List ℕ
unfolding in_bytes
loop transfer =
    file_of
    (1 ∷ 4 ∷ 4 ∷
    2 ∷ transfer ∷ 2 ∷ 2 ∷
    0 ∷ 0 ∷ 1 ∷ 300 ∷ 310 ∷
    0 ∷ 1 ∷ 2 ∷ 311 ∷ 315 ∷
    0 ∷ 2 ∷ 1 ∷ 316 ∷ 319 ∷
    0 ∷ 1 ∷ 3 ∷ 320 ∷ 330 ∷
    [])

-- a departure in the minute of an arrival; the minimum transfer time is given
unfoldable pub meeting : ℕ → List ℕ
unfolding in_bytes
meeting transfer =
    file_of
    (1 ∷ 3 ∷ 2 ∷
    0 ∷ transfer ∷ 0 ∷
    0 ∷ 0 ∷ 1 ∷ 50 ∷ 60 ∷
    1 ∷ 1 ∷ 2 ∷ 60 ∷ 70 ∷
    [])

-- from stop 0 to stop 1 and back, and two connections further
unfoldable pub back : List ℕ
unfolding in_bytes
back =
    file_of
    (1 ∷ 3 ∷ 4 ∷
    5 ∷ 5 ∷ 5 ∷
    0 ∷ 0 ∷ 1 ∷ 100 ∷ 110 ∷
    1 ∷ 1 ∷ 0 ∷ 115 ∷ 125 ∷
    2 ∷ 0 ∷ 2 ∷ 129 ∷ 140 ∷
    3 ∷ 0 ∷ 2 ∷ 130 ∷ 150 ∷
    [])

-- a change that is missed by three minutes
unfoldable pub narrow : List ℕ
unfolding in_bytes
narrow =
    file_of
    (1 ∷ 3 ∷ 2 ∷
    0 ∷ 5 ∷ 0 ∷
    0 ∷ 0 ∷ 1 ∷ 100 ∷ 110 ∷
    1 ∷ 1 ∷ 2 ∷ 112 ∷ 120 ∷
    [])

-- two departures of stop 0, and a connection to it
unfoldable pub board : List ℕ
unfolding in_bytes
board =
    file_of
    (1 ∷ 2 ∷ 3 ∷
    0 ∷ 5 ∷
    0 ∷ 0 ∷ 1 ∷ 100 ∷ 110 ∷
    1 ∷ 0 ∷ 1 ∷ 105 ∷ 115 ∷
    2 ∷ 1 ∷ 0 ∷ 80 ∷ 95 ∷
    [])

-- a trip with stop times of 5 and 2 minutes, and another that starts where it ends
unfoldable pub trips : List ℕ
unfolding in_bytes
trips =
    file_of
    (1 ∷ 3 ∷ 4 ∷
    2 ∷ 2 ∷ 2 ∷
    0 ∷ 0 ∷ 1 ∷ 100 ∷ 110 ∷
    0 ∷ 1 ∷ 2 ∷ 115 ∷ 125 ∷
    0 ∷ 2 ∷ 0 ∷ 127 ∷ 137 ∷
    1 ∷ 0 ∷ 1 ∷ 140 ∷ 150 ∷
    [])

-- two ways to the same change
unfoldable pub choice : List ℕ
unfolding in_bytes
choice =
    file_of
    (1 ∷ 3 ∷ 3 ∷
    0 ∷ 5 ∷ 0 ∷
    0 ∷ 0 ∷ 1 ∷ 100 ∷ 130 ∷
    1 ∷ 0 ∷ 1 ∷ 100 ∷ 110 ∷
    2 ∷ 1 ∷ 2 ∷ 140 ∷ 150 ∷
    [])

-- the first and the last minutes of a timetable
unfoldable pub ends : List ℕ
unfolding in_bytes
ends =
    file_of
    (1 ∷ 2 ∷ 2 ∷
    0 ∷ 60 ∷
    0 ∷ 1 ∷ 0 ∷ 0 ∷ 1 ∷
    1 ∷ 0 ∷ 1 ∷ 4318 ∷ 4319 ∷
    [])

-- one stop, no connection
unfoldable pub empty : List ℕ
unfolding in_bytes
empty = file_of (1 ∷ 1 ∷ 0 ∷ 4 ∷ [])

unfoldable pub cases : List Row
cases =
    -- 0 and 1 leave in the same minute: the lower first; 1 arrives in the minute in which 2 leaves, and needs 0 minutes
    (
      (run same_minute []).areas.graph,
      100 ∷ 120 ∷ 100 ∷ 110 ∷ 110 ∷ 130 ∷
          1 ∷ none ∷ none ∷
          none ∷ 2 ∷ none ∷
          0 ∷ 2 ∷ 7 ∷ [],
    ) ∷
    -- the one that arrives earlier wins; 2 can follow 1 alone
    (
      enquiry_in same_minute [] 0 1 100,
      0 ∷ 110 ∷ 1 ∷
          0 ∷ 1 ∷ 1 ∷ 9 ∷
          1 ∷ 8 ∷ 8 ∷ 8 ∷ [],
    ) ∷
    -- 1 overtakes 0; 2 arrives when 1 does and has the higher number
    (
      enquiry_in overtaking [] 0 1 195,
      0 ∷ 240 ∷ 1 ∷
          0 ∷ 1 ∷ 2 ∷ 9 ∷
          1 ∷ 8 ∷ 8 ∷ 8 ∷ [],
    ) ∷
    -- 0 and 1 have left
    (
      enquiry_in overtaking [] 0 1 211,
      0 ∷ 240 ∷ 1 ∷
          none ∷ none ∷ 2 ∷ 9 ∷
          2 ∷ 8 ∷ 8 ∷ 8 ∷ [],
    ) ∷
    -- 310 and 10 minutes is 320, when 3 leaves: a change from 0 to 3 of the same trip, and 0 is lower than 2
    (
      enquiry_in (loop 10) [] 0 3 300,
      0 ∷ 330 ∷ 2 ∷
          0 ∷ 0 ∷ 1 ∷ 0 ∷ 9 ∷
          0 ∷ 3 ∷ 8 ∷ 8 ∷ 8 ∷ [],
    ) ∷
    -- with 11 minutes only aboard
    (
      enquiry_in (loop 11) [] 0 3 300,
      0 ∷ 330 ∷ 4 ∷
          0 ∷ 0 ∷ 1 ∷ 2 ∷ 9 ∷
          0 ∷ 1 ∷ 2 ∷ 3 ∷ 8 ∷ [],
    ) ∷
    -- its margins, also between neighbours of the trip: 320 - 310 - 10, 320 - 310 - 11, 311 - 310 - 10
    (margin_in (loop 10) [] 0 3, 0 ∷ 0 ∷ 0 ∷ []) ∷
    (margin_in (loop 11) [] 0 3, 0 ∷ 1 ∷ 1 ∷ []) ∷
    (margin_in (loop 10) [] 0 1, 0 ∷ 1 ∷ 9 ∷ []) ∷
    -- 0 minutes: arrival and departure at 60 are a change just made
    (
      enquiry_in (meeting 0) [] 0 2 50,
      0 ∷ 70 ∷ 2 ∷
          0 ∷ 0 ∷ 9 ∷
          0 ∷ 1 ∷ 8 ∷ [],
    ) ∷
    (margin_in (meeting 0) [] 0 1, 0 ∷ 0 ∷ 0 ∷ []) ∷
    -- 1 minute: missed by one; refusal 30 fills the predecessors
    (
      enquiry_in (meeting 1) [] 0 2 50,
      30 ∷ 0 ∷
          0 ∷ none ∷ 9 ∷
          8 ∷ 8 ∷ 8 ∷ [],
    ) ∷
    (margin_in (meeting 1) [] 0 1, 0 ∷ 1 ∷ 1 ∷ []) ∷
    -- 1 is back at stop 0 at 125 and needs its 5 minutes: 3 and not 2
    (
      (run back []).areas.graph,
      100 ∷ 110 ∷ 115 ∷ 125 ∷ 129 ∷ 140 ∷ 130 ∷ 150 ∷
          2 ∷ none ∷ 3 ∷ none ∷
          1 ∷ 3 ∷ none ∷ none ∷
          0 ∷ 1 ∷ none ∷ 7 ∷ [],
    ) ∷
    -- so 3 can follow 1, 2 cannot; and 2 can be first at 129, not at 130
    (
      tests
          (can_follow (network_of (day_of back) []) 1 2 ∷
          can_follow (network_of (day_of back) []) 1 3 ∷
          can_be_first (network_of (day_of back) []) 0 129 2 ∷
          can_be_first (network_of (day_of back) []) 0 130 2 ∷
          []),
      0 ∷ 1 ∷ 1 ∷ 0 ∷ [],
    ) ∷
    -- no minutes at the start
    (
      enquiry_in back [] 0 2 129,
      0 ∷ 140 ∷ 1 ∷
          none ∷ none ∷ 2 ∷ 3 ∷ 9 ∷
          2 ∷ 8 ∷ 8 ∷ 8 ∷ 8 ∷ [],
    ) ∷
    -- 1 can stand before 3, but 3 can be first and is its own predecessor
    (
      enquiry_in back [] 0 2 100,
      0 ∷ 140 ∷ 1 ∷
          0 ∷ 0 ∷ 2 ∷ 3 ∷ 9 ∷
          2 ∷ 8 ∷ 8 ∷ 8 ∷ 8 ∷ [],
    ) ∷
    -- from stop 1 it cannot, and 1 stands before it
    (
      enquiry_in back [] 1 2 115,
      0 ∷ 150 ∷ 2 ∷
          none ∷ 1 ∷ none ∷ 1 ∷ 9 ∷
          1 ∷ 3 ∷ 8 ∷ 8 ∷ 8 ∷ [],
    ) ∷
    -- equal stops: the empty journey, and the predecessors all the same
    (
      enquiry_in back [] 0 0 100,
      0 ∷ 100 ∷ 0 ∷
          0 ∷ 0 ∷ 2 ∷ 3 ∷ 9 ∷
          8 ∷ 8 ∷ 8 ∷ 8 ∷ 8 ∷ [],
    ) ∷
    -- also at stop 1
    (
      enquiry_in back [] 1 1 100,
      0 ∷ 100 ∷ 0 ∷
          none ∷ 1 ∷ none ∷ 1 ∷ 9 ∷
          8 ∷ 8 ∷ 8 ∷ 8 ∷ 8 ∷ [],
    ) ∷
    -- the last minute of an enquiry
    (
      enquiry_in back [] 2 2 5759,
      0 ∷ 5759 ∷ 0 ∷
          none ∷ none ∷ none ∷ none ∷ 9 ∷
          8 ∷ 8 ∷ 8 ∷ 8 ∷ 8 ∷ [],
    ) ∷
    -- one more is refused and changes nothing
    (
      enquiry_in back [] 2 2 5760,
      16 ∷ 0 ∷
          9 ∷ 9 ∷ 9 ∷ 9 ∷ 9 ∷
          8 ∷ 8 ∷ 8 ∷ 8 ∷ 8 ∷ [],
    ) ∷
    -- a stop that there is not is refused before it
    (
      enquiry_in back [] 2 3 5760,
      15 ∷ 0 ∷
          9 ∷ 9 ∷ 9 ∷ 9 ∷ 9 ∷
          8 ∷ 8 ∷ 8 ∷ 8 ∷ 8 ∷ [],
    ) ∷
    -- 115 is needed and 112 is scheduled: no transfer
    (
      (run narrow []).areas.graph,
      100 ∷ 110 ∷ 112 ∷ 120 ∷
          none ∷ none ∷
          none ∷ none ∷
          0 ∷ 1 ∷ none ∷ 7 ∷ [],
    ) ∷
    -- late by 2 it leaves at 114: none still
    (
      (run narrow (posting 1 1 2 ∷ [])).areas.graph,
      100 ∷ 110 ∷ 114 ∷ 122 ∷
          none ∷ none ∷
          none ∷ none ∷
          0 ∷ 1 ∷ none ∷ 7 ∷ [],
    ) ∷
    -- late by 3 it is reached
    (
      (run narrow (posting 1 1 3 ∷ [])).areas.graph,
      100 ∷ 110 ∷ 115 ∷ 123 ∷
          none ∷ none ∷
          1 ∷ none ∷
          0 ∷ 1 ∷ none ∷ 7 ∷ [],
    ) ∷
    -- and there is a journey
    (
      enquiry_in narrow (posting 1 1 3 ∷ []) 0 2 100,
      0 ∷ 123 ∷ 2 ∷
          0 ∷ 0 ∷ 9 ∷
          0 ∷ 1 ∷ 8 ∷ [],
    ) ∷
    -- 0 before 1, and 2 reaches 0
    (
      (run board []).areas.graph,
      100 ∷ 110 ∷ 105 ∷ 115 ∷ 80 ∷ 95 ∷
          1 ∷ none ∷ none ∷
          none ∷ none ∷ 0 ∷
          0 ∷ 2 ∷ 7 ∷ [],
    ) ∷
    -- 0 late by 10 moves behind 1
    (
      (run board (posting 9 0 10 ∷ [])).areas.graph,
      110 ∷ 120 ∷ 105 ∷ 115 ∷ 80 ∷ 95 ∷
          none ∷ 0 ∷ none ∷
          none ∷ none ∷ 1 ∷
          1 ∷ 2 ∷ 7 ∷ [],
    ) ∷
    -- withdrawn, it is where it was
    (
      (run board (posting 9 0 10 ∷ withdrawal 9 ∷ [])).areas.graph,
      100 ∷ 110 ∷ 105 ∷ 115 ∷ 80 ∷ 95 ∷
          1 ∷ none ∷ none ∷
          none ∷ none ∷ 0 ∷
          0 ∷ 2 ∷ 7 ∷ [],
    ) ∷
    -- a notice of 5 minutes is left: the minute of 1, and the lower first
    (
      (run board (posting 9 0 10 ∷ posting 8 0 5 ∷ withdrawal 9 ∷ [])).areas.graph,
      105 ∷ 115 ∷ 105 ∷ 115 ∷ 80 ∷ 95 ∷
          1 ∷ none ∷ none ∷
          none ∷ none ∷ 0 ∷
          0 ∷ 2 ∷ 7 ∷ [],
    ) ∷
    -- the last connection of a trip moves no other, not that of the next trip
    (times_in trips (posting 1 2 30 ∷ []), 100 ∷ 110 ∷ 115 ∷ 125 ∷ 157 ∷ 167 ∷ 140 ∷ 150 ∷ []) ∷
    -- of 9 and 4 minutes the 9 count, the first or the last
    (times_in trips (posting 5 1 9 ∷ posting 6 1 4 ∷ []), 100 ∷ 110 ∷ 124 ∷ 134 ∷ 134 ∷ 144 ∷ 140 ∷ 150 ∷ []) ∷
    (times_in trips (posting 5 1 4 ∷ posting 6 1 9 ∷ []), 100 ∷ 110 ∷ 124 ∷ 134 ∷ 134 ∷ 144 ∷ 140 ∷ 150 ∷ []) ∷
    -- of 6 minutes the first stop uses up 5 and the second the last; of 8 minutes 3 and then 1 are passed on
    (times_in trips (posting 1 0 6 ∷ []), 106 ∷ 116 ∷ 116 ∷ 126 ∷ 127 ∷ 137 ∷ 140 ∷ 150 ∷ []) ∷
    (times_in trips (posting 1 0 8 ∷ []), 108 ∷ 118 ∷ 118 ∷ 128 ∷ 128 ∷ 138 ∷ 140 ∷ 150 ∷ []) ∷
    -- 3 minutes passed on and 2 of its own are 3; with 4 of its own they are 4
    (times_in trips (posting 1 0 8 ∷ posting 2 1 2 ∷ []), 108 ∷ 118 ∷ 118 ∷ 128 ∷ 128 ∷ 138 ∷ 140 ∷ 150 ∷ []) ∷
    (times_in trips (posting 1 0 8 ∷ posting 2 1 4 ∷ []), 108 ∷ 118 ∷ 119 ∷ 129 ∷ 129 ∷ 139 ∷ 140 ∷ 150 ∷ []) ∷
    -- refused calls, each by the first refusal that fits
    (
      answers_told (run trips refusals).answers,
      12 ∷ 0 ∷ 13 ∷ 0 ∷ 14 ∷ 0 ∷ 14 ∷ 0 ∷ 0 ∷ 1 ∷ 25 ∷ 0 ∷ 13 ∷ 0 ∷ 12 ∷ 0 ∷ 27 ∷ 0 ∷ [],
    ) ∷
    -- change nothing: 1 notice stands, number 1 for connection 0 by 8 minutes
    ((run trips refusals).areas.notices, 1 ∷ 1 ∷ 0 ∷ 8 ∷ (replicate 597 0 ++ (7 ∷ []))) ∷
    ((run trips refusals).areas.graph, (run trips (posting 1 0 8 ∷ [])).areas.graph) ∷
    (times_in trips refusals, 108 ∷ 118 ∷ 118 ∷ 128 ∷ 128 ∷ 138 ∷ 140 ∷ 150 ∷ []) ∷
    -- the register answers alike
    (answers_told (register_of (day_of trips) refusals).answers, answers_told (run trips refusals).answers) ∷
    -- it keeps the notices as they came, and the area ascending by number
    (flat (register_of (day_of trips) as_they_came).register, 7 ∷ 0 ∷ 8 ∷ 5 ∷ 3 ∷ 4 ∷ 3 ∷ 2 ∷ 1 ∷ []) ∷ (
      (run trips as_they_came).areas.notices,
      3 ∷ 3 ∷ 2 ∷ 1 ∷ 5 ∷ 3 ∷ 4 ∷ 7 ∷ 0 ∷ 8 ∷ (replicate 591 0 ++ (7 ∷ [])),
    ) ∷
    ((run trips as_they_came).areas.graph, graph_for (day_of trips) (register_of (day_of trips) as_they_came).register ++ (7 ∷ [])) ∷
    -- a number that was withdrawn can be posted again
    (
      answers_told (run trips (posting 1 0 8 ∷ withdrawal 1 ∷ withdrawal 1 ∷ posting 1 3 2 ∷ [])).answers,
      0 ∷ 1 ∷ 0 ∷ 1 ∷ 27 ∷ 0 ∷ 0 ∷ 1 ∷ [],
    ) ∷
    -- 8 minutes corrected to 6, and 6 to 8: the times are those of the last
    (times_in trips (posting 1 0 8 ∷ posting 1 0 6 ∷ []), 106 ∷ 116 ∷ 116 ∷ 126 ∷ 127 ∷ 137 ∷ 140 ∷ 150 ∷ []) ∷
    (times_in trips (posting 1 0 6 ∷ posting 1 0 8 ∷ []), 108 ∷ 118 ∷ 118 ∷ 128 ∷ 128 ∷ 138 ∷ 140 ∷ 150 ∷ []) ∷
    -- of 9 and 4 minutes the 9 corrected to 3: the 4 count
    (times_in trips (posting 5 1 9 ∷ posting 6 1 4 ∷ posting 5 1 3 ∷ []), 100 ∷ 110 ∷ 119 ∷ 129 ∷ 129 ∷ 139 ∷ 140 ∷ 150 ∷ []) ∷
    -- the same again is answered again and changes nothing
    (answers_told (run trips (posting 1 0 8 ∷ posting 1 0 8 ∷ [])).answers, 0 ∷ 1 ∷ 0 ∷ 1 ∷ []) ∷
    ((run trips (posting 1 0 8 ∷ posting 1 0 8 ∷ [])).areas.notices, 1 ∷ 1 ∷ 0 ∷ 8 ∷ (replicate 597 0 ++ (7 ∷ []))) ∷
    ((run trips (posting 1 0 8 ∷ posting 1 0 8 ∷ [])).areas.graph, (run trips (posting 1 0 8 ∷ [])).areas.graph) ∷
    -- the first, the last and the middle row corrected, and the middle one refused on another connection: three notices stand
    (answers_told (run trips corrections).answers, 0 ∷ 7 ∷ 0 ∷ 3 ∷ 0 ∷ 5 ∷ 0 ∷ 3 ∷ 0 ∷ 7 ∷ 25 ∷ 0 ∷ 0 ∷ 5 ∷ []) ∷ (
      (run trips corrections).areas.notices,
      3 ∷ 3 ∷ 1 ∷ 9 ∷ 5 ∷ 3 ∷ 6 ∷ 7 ∷ 0 ∷ 1 ∷ (replicate 591 0 ++ (7 ∷ [])),
    ) ∷
    ((run trips corrections).areas.graph, graph_for (day_of trips) (register_of (day_of trips) corrections).register ++ (7 ∷ [])) ∷
    -- the register answers alike, and corrects each notice where it is
    (answers_told (register_of (day_of trips) corrections).answers, answers_told (run trips corrections).answers) ∷
    (flat (register_of (day_of trips) corrections).register, 7 ∷ 0 ∷ 1 ∷ 3 ∷ 1 ∷ 9 ∷ 5 ∷ 3 ∷ 6 ∷ []) ∷
    -- on J 10 minutes for connection 1 corrected to 12: from 637 to 652, so that 4, at 642, is earlier; 25 on connection 0; withdrawn
    (answers_told (run example_j on_j).answers, 0 ∷ 7 ∷ 0 ∷ 7 ∷ 25 ∷ 0 ∷ 0 ∷ 7 ∷ []) ∷
    (times_in example_j (take 3 on_j), 600 ∷ 620 ∷ 637 ∷ 652 ∷ 622 ∷ 650 ∷ 655 ∷ 690 ∷ 630 ∷ 642 ∷ []) ∷ (
      enquiry_in example_j (take 3 on_j) 0 2 595,
      0 ∷ 642 ∷ 2 ∷
          0 ∷ 0 ∷ none ∷ 1 ∷ 0 ∷ 9 ∷
          0 ∷ 4 ∷ 8 ∷ 8 ∷ 8 ∷ 8 ∷ [],
    ) ∷ (
      enquiry_in example_j on_j 0 2 595,
      0 ∷ 640 ∷ 2 ∷
          0 ∷ 0 ∷ none ∷ 1 ∷ 0 ∷ 9 ∷
          0 ∷ 1 ∷ 8 ∷ 8 ∷ 8 ∷ 8 ∷ [],
    ) ∷
    -- with 200 notices the first, a middle and the last corrected to 5 minutes; the graph then
    (full_told (with_full narrow 1 0 5), 0 ∷ 1 ∷ 200 ∷ 1 ∷ 0 ∷ 5 ∷ flat (notices 2 199)) ∷
    (full_told (with_full narrow 77 0 5), 0 ∷ 77 ∷ 200 ∷ (flat (notices 1 76) ++ (77 ∷ 0 ∷ 5 ∷ flat (notices 78 123)))) ∷
    (full_told (with_full narrow 200 0 5), 0 ∷ 200 ∷ 200 ∷ (flat (notices 1 199) ++ (200 ∷ 0 ∷ 5 ∷ []))) ∷ (
      (with_full narrow 77 0 5).areas.graph,
      105 ∷ 115 ∷ 112 ∷ 120 ∷
          none ∷ none ∷
          none ∷ none ∷
          0 ∷ 1 ∷ none ∷ [],
    ) ∷
    -- number 201 finds no room; number 77 stands on another connection
    (full_told (with_full narrow 201 0 5), 26 ∷ 0 ∷ 200 ∷ flat (notices 1 200)) ∷
    (full_told (with_full narrow 77 1 5), 25 ∷ 0 ∷ 200 ∷ flat (notices 1 200)) ∷
    -- why: no notice stands
    (why_each trips [] 4, 0 ∷ 0 ∷ 0 ∷ 0 ∷ 0 ∷ 0 ∷ 0 ∷ 0 ∷ 0 ∷ 0 ∷ 0 ∷ 0 ∷ []) ∷
    -- 0 is late by 8 through notice 1, and passes 3 and 1 minutes on, which are not told of 1 and 2
    (why_each trips (posting 1 0 8 ∷ []) 4, 0 ∷ 0 ∷ 0 ∷ 0 ∷ 0 ∷ 0 ∷ 0 ∷ 0 ∷ 0 ∷ 0 ∷ 8 ∷ 1 ∷ []) ∷
    -- 3 minutes passed on and 2 of its own: its own 2 are told
    (why_in trips (posting 1 0 8 ∷ posting 2 1 2 ∷ []) 1, 0 ∷ 2 ∷ 2 ∷ []) ∷
    -- of 9 and 4 minutes the 9, in the lower row or the higher, posted first or last
    (why_in trips (posting 5 1 9 ∷ posting 6 1 4 ∷ []) 1, 0 ∷ 9 ∷ 5 ∷ []) ∷
    (why_in trips (posting 5 1 4 ∷ posting 6 1 9 ∷ []) 1, 0 ∷ 9 ∷ 6 ∷ []) ∷
    (why_in trips (posting 6 1 9 ∷ posting 5 1 4 ∷ []) 1, 0 ∷ 9 ∷ 6 ∷ []) ∷
    -- of 7 minutes twice the lower number, whichever was posted first; a lower number of fewer minutes or of another connection is nothing
    (why_in trips (posting 6 1 7 ∷ posting 4 1 7 ∷ []) 1, 0 ∷ 7 ∷ 4 ∷ []) ∷
    (why_in trips (posting 4 1 7 ∷ posting 6 1 7 ∷ []) 1, 0 ∷ 7 ∷ 4 ∷ []) ∷
    (why_in trips (posting 4 1 7 ∷ posting 6 1 7 ∷ posting 2 1 6 ∷ posting 1 0 7 ∷ posting 3 2 9 ∷ []) 1, 0 ∷ 7 ∷ 4 ∷ []) ∷
    -- the lower withdrawn: the higher; corrected to 8: the higher is told, to 6: the lower; both withdrawn: none
    (why_in trips (posting 4 1 7 ∷ posting 6 1 7 ∷ withdrawal 4 ∷ []) 1, 0 ∷ 7 ∷ 6 ∷ []) ∷
    (why_in trips (posting 4 1 7 ∷ posting 6 1 7 ∷ posting 6 1 8 ∷ []) 1, 0 ∷ 8 ∷ 6 ∷ []) ∷
    (why_in trips (posting 4 1 7 ∷ posting 6 1 7 ∷ posting 6 1 6 ∷ []) 1, 0 ∷ 7 ∷ 4 ∷ []) ∷
    (why_in trips (posting 4 1 7 ∷ posting 6 1 7 ∷ withdrawal 4 ∷ withdrawal 6 ∷ []) 1, 0 ∷ 0 ∷ 0 ∷ []) ∷
    -- J: 10 minutes for connection 1 by notice 7, none for the others
    (why_each example_j (posting 7 1 10 ∷ []) 5, 0 ∷ 0 ∷ 0 ∷ 0 ∷ 0 ∷ 0 ∷ 0 ∷ 0 ∷ 0 ∷ 0 ∷ 10 ∷ 7 ∷ 0 ∷ 0 ∷ 0 ∷ []) ∷
    -- 200 notices of a minute: the first; the one corrected to 5 minutes; the last corrected alone
    (why_told (explained narrow (area_of (notices 1 room)) 0), 0 ∷ 1 ∷ 1 ∷ []) ∷
    (why_told (explained narrow (with_full narrow 77 0 5).areas.notices 0), 0 ∷ 5 ∷ 77 ∷ []) ∷
    (why_told (explained narrow (with_full narrow 200 0 2).areas.notices 0), 0 ∷ 2 ∷ 200 ∷ []) ∷
    -- refused: an unknown connection; a wrong row before it; too short an area before that; a wrong file before all
    (why_in trips (posting 1 0 8 ∷ []) 4, 13 ∷ 0 ∷ []) ∷
    (why_told (explained trips (1 ∷ 1 ∷ 4 ∷ 8 ∷ replicate 597 0) 4), 23 ∷ 1 ∷ []) ∷
    (why_told (explained trips (201 ∷ replicate 600 0) 0), 23 ∷ 0 ∷ []) ∷
    (why_told (explained trips (1 ∷ 1 ∷ 4 ∷ 8 ∷ replicate 596 0) 4), 21 ∷ 0 ∷ []) ∷
    (why_told (explained [] [] 4), 1 ∷ 0 ∷ []) ∷
    -- of two that can stand before 2 the lower, although it arrives later
    (
      enquiry_in choice [] 0 2 100,
      0 ∷ 150 ∷ 2 ∷
          0 ∷ 1 ∷ 0 ∷ 9 ∷
          0 ∷ 2 ∷ 8 ∷ 8 ∷ [],
    ) ∷
    -- late by 5 it arrives at 135, and can still
    (
      enquiry_in choice (posting 1 0 5 ∷ []) 0 2 100,
      0 ∷ 150 ∷ 2 ∷
          0 ∷ 1 ∷ 0 ∷ 9 ∷
          0 ∷ 2 ∷ 8 ∷ 8 ∷ [],
    ) ∷
    -- late by 6 it cannot
    (
      enquiry_in choice (posting 1 0 6 ∷ []) 0 2 100,
      0 ∷ 150 ∷ 2 ∷
          0 ∷ 1 ∷ 1 ∷ 9 ∷
          1 ∷ 2 ∷ 8 ∷ 8 ∷ [],
    ) ∷
    -- the largest and the smallest margin; connections that do not meet
    (times_in ends (posting 1 1 1440 ∷ []), 0 ∷ 1 ∷ 5758 ∷ 5759 ∷ []) ∷
    (margin_in ends (posting 1 1 1440 ∷ []) 0 1, 0 ∷ 0 ∷ 5757 ∷ []) ∷
    (margin_in ends (posting 1 1 1440 ∷ []) 1 0, 0 ∷ 1 ∷ 5819 ∷ []) ∷
    (margin_in ends [] 0 0, 17 ∷ 0 ∷ []) ∷
    -- no connection
    ((run empty []).areas.graph, none ∷ 7 ∷ []) ∷
    -- the empty journey is there
    (
      enquiry_in empty [] 0 0 5,
      0 ∷ 5 ∷ 0 ∷
          9 ∷
          8 ∷ [],
    ) ∷
    []
  where
    refusals : List Call
    refusals =
        posting 0 4 0 ∷ posting 1 4 0 ∷ posting 1 0 0 ∷ posting 1 0 1441 ∷ posting 1 0 8 ∷ posting 1 1 2 ∷ posting 1 4 5
        ∷ withdrawal 0 ∷ withdrawal 2 ∷ []

    corrections : List Call
    corrections = posting 7 0 8 ∷ posting 3 1 2 ∷ posting 5 3 4 ∷ posting 3 1 9 ∷ posting 7 0 1 ∷ posting 5 1 1 ∷ posting 5 3 6 ∷ []

    on_j : List Call
    on_j = posting 7 1 10 ∷ posting 7 1 12 ∷ posting 7 0 3 ∷ withdrawal 7 ∷ []

    as_they_came : List Call
    as_they_came = posting 7 0 8 ∷ posting 3 1 2 ∷ posting 5 3 4 ∷ withdrawal 3 ∷ posting 3 2 1 ∷ []

pub cases_right : right cases ≡ true
unfolding right cases told whole enquiry_in spare margin_in why_told why_in why_each tests answers_told times_in run notices with_full full_told example_j
    same_minute overtaking loop meeting back narrow board trips choice ends empty in_bytes
    has has_elsewhere corrected without register_step kept run_of ran built changed enquired margined margin_of why_verdict explained part_verdict same
    file_verdict header_verdict stop_verdict wrong_stops wrong_trip wrong_times wrong_join connection_verdict first_below
    transfer_time trip from to scheduled_departure scheduled_arrival stays_aboard
    least_below tab flat cut area_of rows_of some stands stands_elsewhere struck inserted entered stands_right unused_right rows_from rows_verdict
    prevails with_notice primary_delay expected_departure expected_arrival network_of first_on waiting transfer_to first_departure times graph_of
    can_be_first can_follow choose rounds predecessors follow arriving last_to nowhere journey_in
cases_right = refl

-- Document 01's starred instances on example J, as rows of one table under one claim, through the definitions of the
-- operations. Each row has what the definitions give and what document 01 says. Assumes nothing.
use Rattle.std.proofs.Common.{◌≡◌, ℕ, ◌*◌, Bool, true, ◌&&◌, List, [], ◌∷◌, take, drop, replicate, refl}
use Rattle.refusals.specs.Answers.{Answer, accepted, refused, first_below}
use Rattle.timetable.specs.File.{transfer_time, trip, from, to, scheduled_departure, scheduled_arrival, stays_aboard}
use Rattle.timetable.specs.Check.{header_verdict, stop_verdict, wrong_stops, wrong_trip, wrong_times, wrong_join, connection_verdict, file_verdict}
use Rattle.model.specs.Least.{least_below, tab}
use Rattle.model.specs.Notices.{notices_length, flat, cut, area_of, rows_of, some, stands, stands_elsewhere, struck, inserted, entered, stands_right, unused_right, rows_from, rows_verdict}
use Rattle.model.specs.Times.{prevails, with_notice, primary_delay, expected_departure, expected_arrival, network_of}
use Rattle.model.specs.Graph.{first_on, waiting, transfer_to, first_departure, times, graph_of}
use Rattle.model.specs.Journeys.{can_be_first, can_follow}
use Rattle.model.specs.Predecessors.{choose, rounds, predecessors, follow, arriving, last_to, nowhere, journey_in}
use Rattle.model.specs.Day.{day_of, lent}
use Rattle.model.specs.Drawn.{same}
use Rattle.model.specs.Parts.{part_verdict}
use Rattle.model.specs.Operations.{built, changed, Enquiry, enquired}
use Rattle.model.specs.declared.Arrival.{Arrival}
use Rattle.model.specs.Register.{Call, posting, withdrawal}
use Rattle.model.specs.Runs.{Run, ran, run_of}
use Rattle.model.specs.Example.{example_j, in_bytes}

-- J built on cleared areas, with these calls worked
unfoldable pub after : List Call → Run
after calls = run_of (day_of example_j) (lent (replicate notices_length 0) (replicate 23 0)) calls

-- an enquiry after these calls
unfoldable pub enquiry_after : List Call → ℕ → ℕ → ℕ → Enquiry
enquiry_after calls a b t = enquired (day_of example_j) (after calls).areas (replicate 5 0) (replicate 5 0) a b t

-- departure and arrival of connection c after these calls
unfoldable pub times_of : List Call → ℕ → List ℕ
times_of calls c = take 2 (drop (2 * c) (after calls).areas.graph)

-- an answer as numbers: 0, arrival and count, or the refusal's number and place
unfoldable pub told : Answer Arrival → List ℕ
told (accepted v) = 0 ∷ v.time ∷ v.connections ∷ []
told (refused n p) = n ∷ p ∷ []

-- what the definitions give, and what document 01 says
abbrev pub Row : Type 0
Row = List ℕ × List ℕ

unfoldable pub table : List Row
table =
    -- the graph without notices
    (
      (after []).areas.graph,
      600 ∷ 620 ∷ 625 ∷ 640 ∷ 622 ∷ 650 ∷ 655 ∷ 690 ∷ 630 ∷ 642 ∷
          65535 ∷ 4 ∷ 1 ∷ 65535 ∷ 65535 ∷
          1 ∷ 3 ∷ 3 ∷ 65535 ∷ 3 ∷
          0 ∷ 2 ∷ 3 ∷ [],
    ) ∷
    -- 0 to 2 at 595 without notices: the work area
    ((enquiry_after [] 0 2 595).work, 0 ∷ 0 ∷ 65535 ∷ 1 ∷ 0 ∷ []) ∷
    -- connection 0 late by 5, and by 6
    (times_of (posting 1 0 5 ∷ []) 1, 625 ∷ 640 ∷ []) ∷
    (times_of (posting 1 0 6 ∷ []) 1, 626 ∷ 641 ∷ []) ∷
    -- notices of 6 and 20 minutes on connection 0, in either order; the 20 withdrawn; the same with the numbers exchanged
    (times_of (posting 1 0 6 ∷ posting 2 0 20 ∷ []) 0, 620 ∷ 640 ∷ []) ∷
    (times_of (posting 2 0 20 ∷ posting 1 0 6 ∷ []) 0, 620 ∷ 640 ∷ []) ∷
    (times_of (posting 1 0 6 ∷ posting 2 0 20 ∷ withdrawal 2 ∷ []) 0, 606 ∷ 626 ∷ []) ∷
    (times_of (posting 2 0 20 ∷ posting 1 0 6 ∷ withdrawal 2 ∷ []) 0, 606 ∷ 626 ∷ []) ∷
    (times_of (posting 2 0 6 ∷ posting 1 0 20 ∷ []) 0, 620 ∷ 640 ∷ []) ∷
    (times_of (posting 1 0 20 ∷ posting 2 0 6 ∷ []) 0, 620 ∷ 640 ∷ []) ∷
    (times_of (posting 2 0 6 ∷ posting 1 0 20 ∷ withdrawal 1 ∷ []) 0, 606 ∷ 626 ∷ []) ∷
    (times_of (posting 1 0 20 ∷ posting 2 0 6 ∷ withdrawal 1 ∷ []) 0, 606 ∷ 626 ∷ []) ∷
    -- 0 to 2 at 600, and at 601
    (told (enquiry_after [] 0 2 600).answer, 0 ∷ 640 ∷ 2 ∷ []) ∷
    (told (enquiry_after [] 0 2 601).answer, 30 ∷ 0 ∷ []) ∷
    -- 1 to 1 at 700
    (told (enquiry_after [] 1 1 700).answer, 0 ∷ 700 ∷ 0 ∷ []) ∷
    []

unfoldable pub right : List Row → Bool
right [] = true
right (r ∷ rs) = same r.0 r.1 && right rs

pub instances : right table ≡ true
unfolding right table told times_of enquiry_after after
    example_j in_bytes run_of ran built changed enquired part_verdict same
    file_verdict header_verdict stop_verdict wrong_stops wrong_trip wrong_times wrong_join connection_verdict first_below
    transfer_time trip from to scheduled_departure scheduled_arrival stays_aboard
    least_below tab flat cut area_of rows_of some stands stands_elsewhere struck inserted entered stands_right unused_right rows_from rows_verdict
    prevails with_notice primary_delay expected_departure expected_arrival network_of first_on waiting transfer_to first_departure times graph_of
    can_be_first can_follow choose rounds predecessors follow arriving last_to nowhere journey_in
instances = refl

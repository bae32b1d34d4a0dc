-- The operations: for each one definition of everything after it, from the day, the areas and the numbers as they came in. A
-- refusal changes nothing, but 30 fills the predecessors as an answer does. Assumes nothing.
use Rattle.std.specs.Prelude.{Bool, true, false, List, [], ◌++◌, reverse, ℕ, ℤ, ltb, leb, length, drop}
use Rattle.refusals.specs.Answers.{Answer, accepted, refused, refuse_if, or_else, answering, Verdict, Passed, Refused}
use Rattle.timetable.specs.File.{stops, connections}
use Rattle.timetable.specs.Check.{file_verdict, counts_of}
use Rattle.timetable.specs.declared.Counts.{Counts}
use Rattle.refusals.specs.RefusalNumber as refusal
use Rattle.model.specs.Notices.{notice, notices_length, area_with, rows_of, entered, struck, rows_verdict}
use Rattle.model.specs.declared.Notice.{Notice}
use Rattle.model.specs.Network.{Network}
use Rattle.model.specs.declared.PrimaryDelay.{PrimaryDelay}
use Rattle.model.specs.declared.Arrival.{Arrival}
use Rattle.model.specs.Times.{primary_delay}
use Rattle.model.specs.Journeys.{arrives}
use Rattle.model.specs.Predecessors.{predecessors, nowhere, journey_in}
use Rattle.model.specs.Margin.{margin_of}
use Rattle.model.specs.Day.{Day, Areas, lent}
use Rattle.model.specs.Drawn.{graph_with, standing, network_by}
use Rattle.model.specs.Parts.{Ask, Part, verdict, building_parts, call_parts, enquiry_room, posting_asks, withdrawal_asks, enquiry_asks, margin_asks}

-- an answer, and the areas afterwards
pub record Outcome (A : Type 0) : Type 0 where
  pub answer : Answer A
  pub areas : Areas

abbrev pub outcome : {A : Type 0} → Answer A → Areas → Outcome A
outcome answer areas = record { answer = answer; areas = areas }

-- both areas for these notices; what lies past their stated lengths stays
abbrev pub written : Day → Areas → List Notice → Areas
written day areas ns = lent (area_with ns areas.notices) (graph_with day ns areas.graph)

-- unless refused, the value and both areas for these notices
abbrev pub concluded : {A : Type 0} → Verdict → Day → Areas → A → List Notice → Outcome A
concluded (Refused n p) day areas value ns = outcome (refused n p) areas
concluded Passed day areas value ns = outcome (accepted value) (written day areas ns)

-- building: no notice stands
unfoldable pub built : Day → Areas → Outcome Counts
built day areas = concluded (verdict day areas (building_parts day areas)) day areas (counts_of day.file) []

-- a call that changes the notices that stand: what it asks, its notice number, and what then stands
unfoldable pub changed : Day → Areas → List Ask → ℕ → (List Notice → List Notice) → Outcome ℕ
changed day areas own n now = concluded (verdict day areas (call_parts day areas [] own)) day areas n (now (standing areas))

-- posting notice n for connection c with delay d
abbrev pub posted : Day → Areas → ℕ → ℕ → ℕ → Outcome ℕ
posted day areas n c d = changed day areas (posting_asks (connections day.file) n c d) n (entered (notice n c d))

-- withdrawing notice n
abbrev pub withdrawn : Day → Areas → ℕ → Outcome ℕ
withdrawn day areas n = changed day areas (withdrawal_asks n) n (struck n)

-- an enquiry's answer, and the predecessors' area and the journey's area afterwards
pub record Enquiry : Type 0 where
  pub answer : Answer Arrival
  pub work : List ℕ
  pub journey : List ℕ

abbrev pub enquiry : Answer Arrival → List ℕ → List ℕ → Enquiry
enquiry a work journey = record { answer = a; work = work; journey = journey }

-- refusal 30 where there is no journey, else journey js, read from its end
abbrev pub answered : Bool → Network → ℕ → List ℕ → List ℕ → List ℕ → Enquiry
answered true net t js work journey = enquiry (refused refusal.unreachable 0) work journey
answered false net t js work journey =
    enquiry (accepted (record { time = arrives net t js; connections = length js })) work (reverse js ++ drop (length js) journey)

-- unless refused before, the predecessors are filled and the journey is read from them
abbrev pub searched : Verdict → Network → ℕ → ℕ → ℕ → List ℕ → List ℕ → Enquiry
searched (Refused n p) net a b t work journey = enquiry (refused n p) work journey
searched Passed net a b t work journey =
    let w = predecessors net a t in
    answered (nowhere net w a b) net t (journey_in net w a b) (w ++ drop net.connections work) journey

-- the parts of an enquiry
abbrev pub enquiry_parts : Day → Areas → List ℕ → List ℕ → ℕ → ℕ → ℕ → List Part
enquiry_parts day areas work journey a b t =
    call_parts day areas (enquiry_room day work journey) (enquiry_asks (stops day.file) a b t)

-- enquiring for a journey from stop a to stop b at time t
unfoldable pub enquired : Day → Areas → List ℕ → List ℕ → ℕ → ℕ → ℕ → Enquiry
enquired day areas work journey a b t =
    searched (verdict day areas (enquiry_parts day areas work journey a b t)) (network_by day areas) a b t work journey

-- the margin of a change from connection c to connection d
unfoldable pub margined : Day → Areas → ℕ → ℕ → Answer ℤ
margined day areas c d =
    answering (verdict day areas (call_parts day areas [] (margin_asks day.file c d))) (margin_of (network_by day areas) c d)

-- what telling why connection c of C is late asks: room in the notice area, its rows, and the connection
unfoldable pub why_verdict : ℕ → List ℕ → ℕ → Verdict
why_verdict C notices c =
    or_else (refuse_if (ltb (length notices) notices_length) refusal.short_notices 0)
    (or_else (rows_verdict C notices) (refuse_if (leb C c) refusal.unknown_connection 0))

-- why connection c is late: its primary delay. Only the file and the notice area are looked at, and what the connection before passes
-- on is not told
unfoldable pub explained : List ℕ → List ℕ → ℕ → Answer PrimaryDelay
explained f notices c = answering (or_else (file_verdict f) (why_verdict (connections f) notices c)) (primary_delay c (rows_of notices))

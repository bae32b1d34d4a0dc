-- The refusals of the operations in parts, and the order in which the parts of an operation decide. Assumes nothing.
use Rattle.std.specs.Prelude.{Bool, not, ◌&&◌, ◌||◌, List, [], ◌∷◌, ◌++◌, ℕ, ltb, leb, eqb, length, take}
use Rattle.refusals.specs.Answers.{Answer, refuse_if, or_else, answering, Verdict, Passed}
use Rattle.timetable.specs.File.{connections, from, to}
use Rattle.timetable.specs.Check.{file_verdict, counts_of}
use Rattle.timetable.specs.declared.Counts.{Counts}
use Rattle.refusals.specs.RefusalNumber as refusal
use Rattle.model.specs.Notices.{room, notices_length, least_delay, most_posted, stands, stands_elsewhere, rows_verdict}
use Rattle.model.specs.declared.Notice.{Notice}
use Rattle.model.specs.Network.{last_expected}
use Rattle.model.specs.Day.{Day, Areas}
use Rattle.model.specs.Drawn.{same, graph_length, graph_for, standing}

-- what a call asks of its own numbers: refused with this number where the test holds, which may look at the notices that stand
pub record Ask : Type 0 where
  pub number : ℕ
  pub fails : List Notice → Bool

abbrev pub ask : ℕ → (List Notice → Bool) → Ask
ask n test = record { number = n; fails = test }

-- the first of a call's own refusals
abbrev pub asked_verdict : List Notice → List Ask → Verdict
asked_verdict ns [] = Passed
asked_verdict ns (a ∷ more) = or_else (refuse_if (a.fails ns) a.number 0) (asked_verdict ns more)

-- a part of an operation's refusals
pub data Part : Type 0 where
  -- 1 to 11: what is given
  given : Part
  -- room: refused with this number where the area has fewer numbers than are needed
  needs : ℕ → List ℕ → ℕ → Part
  -- 23: the notice area's rows
  rows : Part
  -- 24: the graph area's numbers
  drawn : Part
  -- what the call asks of its own numbers
  asks : List Ask → Part

unfoldable pub part_verdict : Day → Areas → Part → Verdict
part_verdict day areas given = file_verdict day.file
part_verdict day areas (needs n area most) = refuse_if (ltb (length area) most) n 0
part_verdict day areas rows = rows_verdict (connections day.file) areas.notices
part_verdict day areas drawn =
    refuse_if (not (same (take (graph_length day.file) areas.graph) (graph_for day (standing areas)))) refusal.wrong_graph 0
part_verdict day areas (asks own) = asked_verdict (standing areas) own

-- the verdict of parts: the first that refuses
abbrev pub verdict : Day → Areas → List Part → Verdict
verdict day areas [] = Passed
verdict day areas (p ∷ ps) = or_else (part_verdict day areas p) (verdict day areas ps)

-- 21 and 22: room in both areas
abbrev pub areas_room : Day → Areas → List Part
areas_room day areas =
    needs refusal.short_notices areas.notices notices_length ∷
    needs refusal.short_graph areas.graph (graph_length day.file) ∷
    []

-- 28 and 29: room for the predecessors and the journey of an enquiry
abbrev pub enquiry_room : Day → List ℕ → List ℕ → List Part
enquiry_room day work journey =
    needs refusal.short_work work (connections day.file) ∷
    needs refusal.short_journey journey (connections day.file) ∷
    []

-- 23 and 24: the contents of both areas
abbrev pub contents : List Part
contents = rows ∷ drawn ∷ []

-- building: what is given, and room
abbrev pub building_parts : Day → Areas → List Part
building_parts day areas = given ∷ areas_room day areas

-- every other operation: what is given, room in both areas and in those that it is lent besides, the contents of both areas, then
-- what it asks of its own numbers
abbrev pub call_parts : Day → Areas → List Part → List Ask → List Part
call_parts day areas further own = given ∷ (areas_room day areas ++ (further ++ (contents ++ (asks own ∷ []))))

-- what a posting of notice n for connection c of C with delay d asks
abbrev pub posting_asks : ℕ → ℕ → ℕ → ℕ → List Ask
posting_asks C n c d =
    ask refusal.no_number (λ ns. eqb n 0) ∷
    ask refusal.unknown_connection (λ ns. leb C c) ∷
    ask refusal.wrong_delay (λ ns. not (leb least_delay d && leb d most_posted)) ∷
    ask refusal.stands_elsewhere (λ ns. stands_elsewhere n c ns) ∷
    ask refusal.no_room (λ ns. not (stands n ns) && leb room (length ns)) ∷
    []

-- what a withdrawal of notice n asks
abbrev pub withdrawal_asks : ℕ → List Ask
withdrawal_asks n = ask refusal.no_number (λ ns. eqb n 0) ∷ ask refusal.not_standing (λ ns. not (stands n ns)) ∷ []

-- what an enquiry from stop a to stop b of S at time t asks
abbrev pub enquiry_asks : ℕ → ℕ → ℕ → ℕ → List Ask
enquiry_asks S a b t = ask refusal.unknown_stop (λ ns. leb S a || leb S b) ∷ ask refusal.too_late (λ ns. ltb last_expected t) ∷ []

-- what the margin of a change from connection c to connection d asks
abbrev pub margin_asks : List ℕ → ℕ → ℕ → List Ask
margin_asks f c d =
    ask refusal.unknown_connection (λ ns. leb (connections f) c || leb (connections f) d) ∷
    ask refusal.not_joined (λ ns. not (eqb (to f c) (from f d))) ∷
    []

-- the verdicts that the checks of both areas give: room, contents, both
abbrev pub room_verdict : Day → Areas → Verdict
room_verdict day areas = verdict day areas (areas_room day areas)

abbrev pub contents_verdict : Day → Areas → Verdict
contents_verdict day areas = verdict day areas contents

abbrev pub areas_verdict : Day → Areas → Verdict
areas_verdict day areas = or_else (room_verdict day areas) (contents_verdict day areas)

-- 1 to 11 and 21 to 24: what is given, and both areas
abbrev pub open_verdict : Day → Areas → Verdict
open_verdict day areas = or_else (file_verdict day.file) (areas_verdict day areas)

-- what an examination by these answers
abbrev pub examined : Day → Areas → Answer Counts
examined day areas = answering (open_verdict day areas) (counts_of day.file)

-- The refusals over the areas that an enquiry is lent, in their order. Assumes nothing.
use Rattle.std.specs.Prelude.{List, ◌++◌, ℕ}
use Rattle.graph.specs.Answers.{or_else, Verdict}
use Rattle.model.specs.Day.{Day, Areas}
use Rattle.model.specs.Parts.{verdict, areas_room, enquiry_room, contents_verdict}

-- 21, 22, 28 and 29: room in all of them
abbrev pub room_for : Day → Areas → List ℕ → List ℕ → Verdict
room_for day areas work journey = verdict day areas (areas_room day areas ++ enquiry_room day work journey)

-- then 23 and 24
abbrev pub lent_verdict : Day → Areas → List ℕ → List ℕ → Verdict
lent_verdict day areas work journey = or_else (room_for day areas work journey) (contents_verdict day areas)

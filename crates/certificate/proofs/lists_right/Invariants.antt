-- `certificate::lists_right` meets its contract. The invariants of the loops: the links of the boards below b, and of the connections
-- below c, are right, and marked. Assumes nothing.
use Rattle.std.proofs.Common.{ℕ, ◌<◌}
use Rattle.model.specs.Shown.{shown}
use Rattle.links.specs.Links.{FirstLink, NextLink}
use Rattle.links.specs.Telling.{FirstsLinked, NextsLinked}
use Rattle.certificate.proofs.lists_right.Given as goal

abbrev pub invariant-loop-b : goal.invariant-loop-b
invariant-loop-b l =
    let f = l.shown.timetable.file.now in
    let g = l.shown.graph.now in
    ((k : ℕ) → k < l.b → FirstLink (shown f g) g k) × FirstsLinked f g l.b l.marks

abbrev pub invariant-loop-c : goal.invariant-loop-c
invariant-loop-c l =
    let f = l.shown.timetable.file.now in
    let g = l.shown.graph.now in
    ((k : ℕ) → k < l.c → NextLink (shown f g) g k) × NextsLinked f g l.shown.timetable.stops l.c l.marks l.lasts

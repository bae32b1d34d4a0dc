-- `acceptance::stops_verdict` meets its contract. The invariant: every stop passed by passes. Assumes nothing.
use Rattle.std.proofs.Common.{◌≡◌, ◌≤◌}
use Rattle.refusals.specs.Answers.{first_below, Passed}
use Rattle.timetable.specs.Check.{stop_verdict}
use Rattle.acceptance.proofs.stops_verdict.Given as goal

abbrev pub invariant-loop-s : goal.invariant-loop-s
invariant-loop-s l =
    (l.s ≤ l.n) × (first_below (stop_verdict l.fields.file.now) l.s ≡ Passed)

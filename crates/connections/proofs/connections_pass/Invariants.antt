-- `connections::connections_pass` meets its contract. The invariant: every connection passed by passes. Assumes nothing.
use Rattle.std.proofs.Common.{◌≡◌, ◌<◌}
use Rattle.refusals.specs.Answers.{first_below, Passed}
use Rattle.timetable.specs.Check.{connection_verdict}
use Rattle.connections.proofs.connections_pass.Given as goal

abbrev pub invariant-loop-c : goal.invariant-loop-c
invariant-loop-c l =
    (0 < l.c) × (first_below (connection_verdict l.fields.file.now) l.c ≡ Passed)

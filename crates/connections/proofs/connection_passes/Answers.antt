-- `connections::connection_passes` meets its contract. Assumes nothing.
use Rattle.timetable.proofs.Rules.{connection_tests}
use Rattle.connections.proofs.connection_passes.Goals as goal

pub returns-then-wrong_stops : goal.returns-then-wrong_stops
returns-then-wrong_stops c =
    rw (connection_tests, ← c.wrong_stops.ensures, c.if-wrong_stops.true)

pub returns-then-wrong_times : goal.returns-then-wrong_times
returns-then-wrong_times c =
    rw (connection_tests, ← c.wrong_stops.ensures, c.if-wrong_stops.false, ← c.wrong_times.ensures, c.if-wrong_times.true)

pub returns : goal.returns
returns c =
    rw (connection_tests, ← c.wrong_stops.ensures, c.if-wrong_stops.false, ← c.wrong_times.ensures, c.if-wrong_times.false) c.follows.ensures

-- `connections::connection_verdict` meets its contract. Assumes nothing.
use Rattle.timetable.specs.Check.{connection_verdict}
use Rattle.connections.proofs.connection_verdict.Goals as goal

pub returns-then-wrong_stops : goal.returns-then-wrong_stops
unfolding connection_verdict
returns-then-wrong_stops c =
    rw (← c.wrong_stops.ensures, c.if-wrong_stops.true)

pub returns-then-wrong_trip : goal.returns-then-wrong_trip
unfolding connection_verdict
returns-then-wrong_trip c =
    rw (← c.wrong_stops.ensures, c.if-wrong_stops.false, ← c.wrong_trip.ensures, c.if-wrong_trip.true)

pub returns-then-wrong_times : goal.returns-then-wrong_times
unfolding connection_verdict
returns-then-wrong_times c =
    rw (← c.wrong_stops.ensures, c.if-wrong_stops.false, ← c.wrong_trip.ensures, c.if-wrong_trip.false, ← c.wrong_times.ensures, c.if-wrong_times.true)

pub returns-then-wrong_join : goal.returns-then-wrong_join
unfolding connection_verdict
returns-then-wrong_join c =
    rw (← c.wrong_stops.ensures, c.if-wrong_stops.false, ← c.wrong_trip.ensures, c.if-wrong_trip.false, ← c.wrong_times.ensures, c.if-wrong_times.false, ← c.wrong_join.ensures, c.if-wrong_join.true)

pub returns : goal.returns
unfolding connection_verdict
returns c =
    rw (← c.wrong_stops.ensures, c.if-wrong_stops.false, ← c.wrong_trip.ensures, c.if-wrong_trip.false, ← c.wrong_times.ensures, c.if-wrong_times.false, ← c.wrong_join.ensures, c.if-wrong_join.false)

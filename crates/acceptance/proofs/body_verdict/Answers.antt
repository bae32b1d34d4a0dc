-- `acceptance::body_verdict` meets its contract. Assumes nothing.
use Rattle.timetable.proofs.Order.{or_passed}
use Rattle.std.proofs.lemmas.Result.{err_from_is_err_and}
use Rattle.acceptance.proofs.body_verdict.Goals as goal

pub returns-in_err-stops_verdict : goal.returns-in_err-stops_verdict
returns-in_err-stops_verdict c =
    let p = err_from_is_err_and c.from_residual.result c.from_residual.ensures.1 in
    rw (p.1, p.2, ← c.stops-stops.ensures, ← c.in_err-stops_verdict.ensures)

pub returns : goal.returns
returns c =
    rw (← c.stops-stops.ensures, ← c.in_ok-stops_verdict.ensures, ← c.connections-connections.ensures, or_passed) c.connections_verdict.ensures

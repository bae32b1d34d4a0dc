-- `causes::why` meets its contract: the file is refused, or the notice area or the connection is, or the primary delay is told.
-- Assumes nothing.
use Rattle.std.proofs.Common.{sym, arith}
use Rattle.timetable.specs.File.{connections}
use Rattle.timetable.specs.Accepted.{Opened}
use Rattle.model.specs.Operations.{explained}
use Rattle.model.proofs.Why.{why_passed}
use Rattle.std.proofs.lemmas.Result.{err_from_is_err_and}
use Rattle.model.proofs.Areas.{standing_fits}
use Rattle.causes.proofs.why.Goals as goal

pub returns-in_default : goal.returns-in_default
unfolding explained
returns-in_default c =
    let refused = rw c.unwrap_err.ensures at c.open-opened.ensures.verdict in
    rw (← refused)

pub primary_delay-requires : goal.primary_delay-requires
primary_delay-requires c =
    let opened : Opened c.args.file.now c.in-Ok.timetable.stops c.in-Ok.timetable.connections =
    rw c.in-Ok.ensures.of_the_file at c.in-Ok.timetable.opened in
    let a = c.args in
    let p = why_passed (connections a.file.now) a.notices.now a.connection (rw (← opened.connections) (sym c.in_ok-why_verdict.ensures)) in
    omega (arith, p.exists, opened.timetable.few)

pub invariant_of-primary_delay : goal.invariant_of-primary_delay
invariant_of-primary_delay c =
    let opened : Opened c.args.file.now c.in-Ok.timetable.stops c.in-Ok.timetable.connections =
    rw c.in-Ok.ensures.of_the_file at c.in-Ok.timetable.opened in
    let a = c.args in
    let p = why_passed (connections a.file.now) a.notices.now a.connection (rw (← opened.connections) (sym c.in_ok-why_verdict.ensures)) in
    record { fits = record { long = p.rows.long; fits = standing_fits (connections a.file.now) a.notices.now p.rows } }

pub returns-in_err-why_verdict : goal.returns-in_err-why_verdict
unfolding explained
returns-in_err-why_verdict c =
    let opened : Opened c.args.file.now c.in-Ok.timetable.stops c.in-Ok.timetable.connections =
    rw c.in-Ok.ensures.of_the_file at c.in-Ok.timetable.opened in
    let p = err_from_is_err_and c.from_residual.result c.from_residual.ensures.1 in
    rw (p.1, p.2, ← c.in-Ok.ensures.verdict, ← opened.connections, ← c.in_err-why_verdict.ensures)

pub returns : goal.returns
unfolding explained
returns c =
    let opened : Opened c.args.file.now c.in-Ok.timetable.stops c.in-Ok.timetable.connections =
    rw c.in-Ok.ensures.of_the_file at c.in-Ok.timetable.opened in
    rw (← c.in-Ok.ensures.verdict, ← opened.connections, ← c.in_ok-why_verdict.ensures, c.primary_delay.ensures)

-- `graph::update` meets its contract. Assumes nothing.
use Rattle.std.proofs.Common.{◌≡◌, sym}
use Rattle.timetable.specs.File.{connections}
use Rattle.refusals.specs.Answers.{Passed}
use Rattle.timetable.specs.Accepted.{Opened}
use Rattle.model.specs.Day.{Day, Areas, day_of, lent}
use Rattle.model.specs.Drawn.{standing}
use Rattle.model.specs.Parts.{asked_verdict}
use Rattle.model.proofs.Operations.{open_refuses, own_refuses, accepts}
use Rattle.model.proofs.Ready.{open_ready}
use Rattle.calls.specs.Call.{asks_of, standing_after, number_in}
use Rattle.std.proofs.lemmas.Result.{err_from_is_err_and}
use Rattle.notices.proofs.Standing.{rows_stand}
use Rattle.graph.proofs.update.Goals as goal

pub returns-in_default : goal.returns-in_default
returns-in_default c =
    let day : Day = day_of c.args.file.now in
    let areas : Areas = lent c.args.notices.now c.args.graph.now in
    open_refuses day areas (asks_of (connections c.args.file.now) c.args.call) (number_in c.args.call) (standing_after c.args.call) _ _
    (sym (rw c.unwrap_err.ensures at c.examine-examined.ensures.verdict))

pub invariant_of-call_verdict : goal.invariant_of-call_verdict
invariant_of-call_verdict c =
    let day : Day = day_of c.args.file.now in
    let areas : Areas = lent c.args.notices.now c.args.graph.now in
    record { standing = rows_stand (connections c.args.file.now) c.args.notices.now (open_ready day areas (sym c.in-Ok.ensures.verdict)).rows }

pub returns-in_err-call_verdict : goal.returns-in_err-call_verdict
returns-in_err-call_verdict c =
    let day : Day = day_of c.args.file.now in
    let areas : Areas = lent c.args.notices.now c.args.graph.now in
    let opened : Opened c.args.file.now c.in-Ok.timetable.stops c.in-Ok.timetable.connections =
    rw c.in-Ok.ensures.of_the_file at c.in-Ok.timetable.opened in
    let p = err_from_is_err_and c.from_residual.result c.from_residual.ensures.1 in
    rw (p.1, p.2)
    (own_refuses day areas (asks_of (connections c.args.file.now) c.args.call) (number_in c.args.call) (standing_after c.args.call) _ _
    (sym c.in-Ok.ensures.verdict) (rw (← opened.connections) (sym c.in_err-call_verdict.ensures)))

pub work_call-requires : goal.work_call-requires
work_call-requires c =
    let day : Day = day_of c.args.file.now in
    let areas : Areas = lent c.args.notices.now c.args.graph.now in
    record {
      ready = rw c.in-Ok.ensures.of_the_file (open_ready day areas (sym c.in-Ok.ensures.verdict));
      call_value = sym c.in_ok-call_verdict.ensures;
    }

pub returns : goal.returns
returns c =
    let day : Day = day_of c.args.file.now in
    let areas : Areas = lent c.args.notices.now c.args.graph.now in
    let opened : Opened c.args.file.now c.in-Ok.timetable.stops c.in-Ok.timetable.connections =
    rw c.in-Ok.ensures.of_the_file at c.in-Ok.timetable.opened in
    let admitted : asked_verdict (standing areas) (asks_of (connections c.args.file.now) c.args.call) ≡ Passed =
    rw (← opened.connections) (sym c.in_ok-call_verdict.ensures) in
    rw c.number_of.ensures
    (accepts day areas (asks_of (connections c.args.file.now) c.args.call) (number_in c.args.call) (standing_after c.args.call) _
    (sym c.in-Ok.ensures.verdict) admitted (rw c.in-Ok.ensures.of_the_file at c.work_call.ensures))

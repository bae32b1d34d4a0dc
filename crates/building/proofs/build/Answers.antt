-- `building::build` meets its contract. Assumes nothing.
use Rattle.std.proofs.Common.{◌≡◌, sym}
use Rattle.refusals.specs.Answers.{Passed}
use Rattle.timetable.specs.Accepted.{Opened}
use Rattle.model.specs.Day.{Day, Areas, day_of, lent}
use Rattle.model.specs.Parts.{room_verdict}
use Rattle.model.proofs.Operations.{built_refused, built_done}
use Rattle.std.proofs.lemmas.Result.{err_from_is_err_and}
use Rattle.building.proofs.build.Goals as goal

pub returns-in_default : goal.returns-in_default
returns-in_default c =
    let day : Day = day_of c.args.file.now in
    let areas : Areas = lent c.args.notices.now c.args.graph.now in
    let refused = rw c.unwrap_err.ensures at c.open-opened.ensures.verdict in
    built_refused day areas _ _ (rw (← refused))

pub returns-in_err-room_verdict : goal.returns-in_err-room_verdict
returns-in_err-room_verdict c =
    let day : Day = day_of c.args.file.now in
    let areas : Areas = lent c.args.notices.now c.args.graph.now in
    let p = err_from_is_err_and c.from_residual.result c.from_residual.ensures.1 in
    let refused = rw c.in-Ok.ensures.of_the_file at c.in_err-room_verdict.ensures in
    rw (p.1, p.2) (built_refused day areas _ _ (rw (← c.in-Ok.ensures.verdict) (sym refused)))

pub clear_all-requires : goal.clear_all-requires
clear_all-requires c =
    sym c.in_ok-room_verdict.ensures

pub returns : goal.returns
returns c =
    let day : Day = day_of c.args.file.now in
    let areas : Areas = lent c.args.notices.now c.args.graph.now in
    let opened : Opened c.args.file.now c.in-Ok.timetable.stops c.in-Ok.timetable.connections =
    rw c.in-Ok.ensures.of_the_file at c.in-Ok.timetable.opened in
    let room : room_verdict day areas ≡ Passed = sym (rw c.in-Ok.ensures.of_the_file at c.in_ok-room_verdict.ensures) in
    built_done day areas _ _ _ opened room (rw c.in-Ok.ensures.of_the_file at c.clear_all.ensures)

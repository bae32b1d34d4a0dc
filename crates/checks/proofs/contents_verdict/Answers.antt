-- `checks::contents_verdict` meets its contract. Assumes nothing.
use Rattle.std.proofs.Common.{◌≡◌, sym}
use Rattle.timetable.specs.File.{connections}
use Rattle.refusals.specs.Answers.{Passed}
use Rattle.model.specs.Notices.{rows_verdict}
use Rattle.model.specs.Day.{Day, Areas, day_of, lent}
use Rattle.model.proofs.Parts.{room_long, contents_refused, contents_end}
use Rattle.model.proofs.Ready.{rows_passed}
use Rattle.std.proofs.lemmas.Result.{err_from_is_err_and}
use Rattle.checks.proofs.contents_verdict.Goals as goal

pub check_rows-requires : goal.check_rows-requires
check_rows-requires c =
    let day : Day = day_of c.args.timetable.file.now in
    let areas : Areas = lent c.args.areas.notices.now c.args.areas.graph.now in
    (room_long day areas c.requires).0

pub returns-in_err-check_rows : goal.returns-in_err-check_rows
returns-in_err-check_rows c =
    let p = err_from_is_err_and c.from_residual.result c.from_residual.ensures.1 in
    let day : Day = day_of c.args.timetable.file.now in
    let areas : Areas = lent c.args.areas.notices.now c.args.areas.graph.now in
    let refuses = sym c.in_err-check_rows.ensures in
    rw (p.1, p.2) (sym (contents_refused day areas _ _ (rw (← c.args.timetable.opened.connections) refuses)))

pub is_graph-requires : goal.is_graph-requires
is_graph-requires c =
    let day : Day = day_of c.args.timetable.file.now in
    let areas : Areas = lent c.args.areas.notices.now c.args.areas.graph.now in
    (room_long day areas c.requires).1

pub invariant_of-outlook : goal.invariant_of-outlook
invariant_of-outlook c =
    let day : Day = day_of c.args.timetable.file.now in
    let areas : Areas = lent c.args.areas.notices.now c.args.areas.graph.now in
    record { standing = rows_passed c.args.timetable.connections c.args.areas.notices.now (room_long day areas c.requires).0 (sym c.in_ok-check_rows.ensures) }

pub returns-then-is_graph : goal.returns-then-is_graph
returns-then-is_graph c =
    let day : Day = day_of c.args.timetable.file.now in
    let areas : Areas = lent c.args.areas.notices.now c.args.areas.graph.now in
    let rows_right : let a = c.args in rows_verdict (connections a.timetable.file.now) a.areas.notices.now ≡ Passed = rw (← c.args.timetable.opened.connections) (sym c.in_ok-check_rows.ensures) in
    let ends = contents_end day areas rows_right in
    rw (ends, ← c.is_graph.ensures, c.if-is_graph.true)

pub returns : goal.returns
returns c =
    let day : Day = day_of c.args.timetable.file.now in
    let areas : Areas = lent c.args.areas.notices.now c.args.areas.graph.now in
    let rows_right : let a = c.args in rows_verdict (connections a.timetable.file.now) a.areas.notices.now ≡ Passed = rw (← c.args.timetable.opened.connections) (sym c.in_ok-check_rows.ensures) in
    let ends = contents_end day areas rows_right in
    rw (ends, ← c.is_graph.ensures, c.if-is_graph.false)

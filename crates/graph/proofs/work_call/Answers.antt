-- `graph::work_call` meets its contract. Assumes nothing.
use Rattle.std.proofs.Common.{◌≡◌, List}
use Rattle.timetable.specs.File.{connections}
use Rattle.refusals.specs.Answers.{Passed}
use Rattle.model.specs.Notices.{rows_of, WellFormed}
use Rattle.model.specs.declared.Notice.{Notice}
use Rattle.model.specs.Day.{Day, Areas, day_of, lent}
use Rattle.model.specs.Parts.{asked_verdict}
use Rattle.model.proofs.Ready.{graph_room}
use Rattle.calls.specs.Call.{asks_of, standing_after}
use Rattle.model.proofs.Written.{written_standing, both_written}
use Rattle.calls.proofs.Calls.{call_formed}
use Rattle.graph.proofs.work_call.Goals as goal

pub note_call-requires : goal.note_call-requires
note_call-requires c =
    let passed : asked_verdict (rows_of c.args.notices.now) (asks_of (connections c.args.timetable.file.now) c.args.call) ≡ Passed = rw (← c.args.timetable.opened.connections) c.requires.call_value in
    rw c.args.timetable.opened.connections (c.requires.ready.rows, passed)

pub fill_graph-requires : goal.fill_graph-requires
fill_graph-requires c =
    let day : Day = day_of c.args.timetable.file.now in
    let areas : Areas = lent c.args.notices.now c.args.graph.now in
    graph_room day areas c.requires.ready

pub invariant_of-fill_graph : goal.invariant_of-fill_graph
invariant_of-fill_graph c =
    let after : List Notice = standing_after c.args.call (rows_of c.args.notices.now) in
    let n = c.args.timetable.connections in
    let formed : WellFormed n after = call_formed n (rows_of c.args.notices.now) c.args.call (rw c.args.timetable.opened.connections c.requires.ready.rows.rows) c.requires.call_value in
    record { standing = (written_standing n after _ _ c.note_call.ensures formed).0 }

pub returns : goal.returns
returns c =
    let day : Day = day_of c.args.timetable.file.now in
    let areas : Areas = lent c.args.notices.now c.args.graph.now in
    let after : List Notice = standing_after c.args.call (rows_of c.args.notices.now) in
    let passed : asked_verdict (rows_of c.args.notices.now) (asks_of (connections c.args.timetable.file.now) c.args.call) ≡ Passed = rw (← c.args.timetable.opened.connections) c.requires.call_value in
    let formed : WellFormed (connections c.args.timetable.file.now) after = call_formed (connections c.args.timetable.file.now) (rows_of c.args.notices.now) c.args.call c.requires.ready.rows.rows passed in
    both_written day areas after _ _ formed c.note_call.ensures c.fill_graph.ensures

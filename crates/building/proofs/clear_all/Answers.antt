-- `building::clear_all` meets its contract. Assumes nothing.
use Rattle.std.proofs.Common.{[]}
use Rattle.timetable.specs.File.{connections}
use Rattle.model.proofs.Runs.{none_formed}
use Rattle.model.specs.Notices.{WellFormed}
use Rattle.model.proofs.Parts.{room_long}
use Rattle.model.proofs.Written.{written_standing, both_written}
use Rattle.model.specs.Day.{Day, Areas, day_of, lent}
use Rattle.building.proofs.clear_all.Goals as goal

pub clear_rows-requires : goal.clear_rows-requires
clear_rows-requires c =
    let day : Day = day_of c.args.timetable.file.now in
    let areas : Areas = lent c.args.notices.now c.args.graph.now in
    (room_long day areas c.requires).0

pub fill_graph-requires : goal.fill_graph-requires
fill_graph-requires c =
    let day : Day = day_of c.args.timetable.file.now in
    let areas : Areas = lent c.args.notices.now c.args.graph.now in
    (room_long day areas c.requires).1

pub invariant_of-fill_graph : goal.invariant_of-fill_graph
invariant_of-fill_graph c =
    let n = c.args.timetable.connections in
    record { standing = (written_standing n [] _ _ c.clear_rows.ensures (none_formed n)).0 }

pub returns : goal.returns
returns c =
    let day : Day = day_of c.args.timetable.file.now in
    let areas : Areas = lent c.args.notices.now c.args.graph.now in
    let formed : WellFormed (connections c.args.timetable.file.now) [] = none_formed (connections c.args.timetable.file.now) in
    both_written day areas [] _ _ formed c.clear_rows.ensures c.fill_graph.ensures

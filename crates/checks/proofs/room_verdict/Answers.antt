-- `checks::room_verdict` meets its contract. Assumes nothing.
use Rattle.std.proofs.Common.{length, arith, le-ltb, lt-ltb}
use Rattle.model.specs.Notices.{notices_length}
use Rattle.model.specs.Drawn.{graph_length}
use Rattle.model.specs.Parts.{part_verdict}
use Rattle.checks.proofs.room_verdict.Goals as goal

pub returns-then-areas-lt-NOTICES_LENGTH : goal.returns-then-areas-lt-NOTICES_LENGTH
unfolding part_verdict
returns-then-areas-lt-NOTICES_LENGTH c =
    rw (lt-ltb (length c.args.areas.notices.now) notices_length (omega arith))

pub returns-then-areas-n : goal.returns-then-areas-n
unfolding part_verdict
returns-then-areas-n c =
    let a = c.args in
    rw (le-ltb (length a.areas.notices.now) notices_length (omega arith), lt-ltb (length a.areas.graph.now) (graph_length a.timetable.file.now) (omega arith))

pub returns : goal.returns
unfolding part_verdict
returns c =
    let a = c.args in
    rw (le-ltb (length a.areas.notices.now) notices_length (omega arith), le-ltb (length a.areas.graph.now) (graph_length a.timetable.file.now) (omega arith))

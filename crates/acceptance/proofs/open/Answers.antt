-- `acceptance::open` meets its contract. Assumes nothing.
use Rattle.timetable.proofs.Answered.{opened_by}
use Rattle.acceptance.proofs.open.Goals as goal

pub invariant_of-result : goal.invariant_of-result
invariant_of-result c =
    record { opened = opened_by c.args.file.now c.in_ok-counts.counts c.in_ok-counts.ensures }

-- `journeys::read_journey` meets its contract. Assumes nothing.
use Rattle.std.proofs.Common.{sym, arith}
use Rattle.journeys.proofs.Reading.{read_here, long, read_none, to_write, last_exists, count_fits, read_found}
use Rattle.journeys.proofs.read_journey.Goals as goal

pub returns-then-request : goal.returns-then-request
returns-then-request c =
    read_here c.args.network _ c.args.journey.now _ _ _ c.requires.journey_room c.if-request.true

pub slice_bounds-predecessors-end : goal.slice_bounds-predecessors-end
slice_bounds-predecessors-end c =
    sym (long c.args.network _ c.args.journey.now _ c.args.request.to _ c.requires.journey_room c.requires.work_value)

pub find_last-requires : goal.find_last-requires
find_last-requires c =
    long c.args.network _ c.args.journey.now _ c.args.request.to _ c.requires.journey_room c.requires.work_value

pub returns-in_default : goal.returns-in_default
returns-in_default c =
    read_none c.args.network _ c.args.journey.now _ _ _ c.requires.journey_room c.requires.work_value c.if-request.false c.in_default.ensures

pub write_journey-count-requires : goal.write_journey-count-requires
write_journey-count-requires c =
    to_write c.args.network _ c.args.journey.now _ _ _ c.requires.journey_room c.requires.work_value c.if-request.false _ c.in-Some.ensures

pub arrival-requires : goal.arrival-requires
arrival-requires c =
    last_exists c.args.network _ c.args.journey.now _ _ _ c.requires.journey_room c.requires.work_value c.if-request.false _ c.in-Some.ensures

pub overflow_cast-result : goal.overflow_cast-result
overflow_cast-result c =
    let k = count_fits c.args.network _ c.args.journey.now _ _ _ c.requires.journey_room c.requires.work_value c.if-request.false _ c.in-Some.ensures _ _ c.write_journey-count.ensures in
    omega (arith, k)

pub returns : goal.returns
returns c =
    read_found c.args.network _ c.args.journey.now _ _ _ c.requires.journey_room c.requires.work_value c.if-request.false _ c.in-Some.ensures _ _ c.write_journey-count.ensures _ c.arrival.ensures.value

-- `search::find_journey` meets its contract. Assumes nothing.
use Rattle.std.proofs.Common.{◌∙◌, arith}
use Rattle.search.proofs.Enquiries.{sortable, front, searched_read}
use Rattle.search.proofs.find_journey.Goals as goal

pub order_departures-requires : goal.order_departures-requires
order_departures-requires c =
    let p = sortable c.args.network in
    (p.0, p.1, λ d h. omega (arith, p.2 d h), omega (arith, p.0))

pub fill_predecessors-requires : goal.fill_predecessors-requires
fill_predecessors-requires c =
    let q = c.args.network.shown.timetable.opened.connections in
    record { work_room = c.requires.0; ordered = rw q at c.order_departures.ensures }

pub read_journey-requires : goal.read_journey-requires
read_journey-requires c =
    let a = c.args in
    record { journey_room = c.requires.1; work_value = front a.network a.work.now a.request.from a.request.time _ c.fill_predecessors.ensures }

pub returns : goal.returns
returns c =
    let a = c.args in
    c.read_journey.ensures
    ∙ searched_read a.network a.work.now a.request.from a.request.time _ c.fill_predecessors.ensures _ _

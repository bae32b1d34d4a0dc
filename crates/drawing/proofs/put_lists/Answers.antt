-- The parts are the departure lists of what the area shows. Assumes nothing.
use Rattle.std.proofs.Common.{◌≡◌, ◌+◌, ◌*◌, sym, ◌∙◌, arith, length-take-le, rules}
use Rattle.transfers.proofs.Passing.{departed_front}
use Rattle.drawing.proofs.Lent.{put_part}
use Rattle.drawing.proofs.Drawing.{parts_drawn}
use Rattle.drawing.proofs.put_lists.Goals as goal

pub slice_bounds-departed-end : goal.slice_bounds-departed-end
slice_bounds-departed-end c =
    let found = c.fill_transfers-k.ensures c.args.graph.now c.order_events.ensures in
    omega (arith, found.departures.falling.room)

pub slice_bounds-fill_waiting-end : goal.slice_bounds-fill_waiting-end
slice_bounds-fill_waiting-end c =
    let found = c.fill_transfers-k.ensures c.args.graph.now c.order_events.ensures in
    sym (length-take-le _ _ (omega (arith, found.departures.falling.room)))

pub fill_waiting-requires : goal.fill_waiting-requires
fill_waiting-requires c =
    let found = c.fill_transfers-k.ensures c.args.graph.now c.order_events.ensures in
    ((c.args.graph.now, departed_front found), search rules)

pub returns : goal.returns
returns c =
    let a = c.args in
    let n = a.timetable.connections in
    let found = c.fill_transfers-k.ensures a.graph.now c.order_events.ensures in
    let copied : c.copy_from_slice.new.self ≡ c.fill_transfers-k.new.heads = search rules in
    parts_drawn a.timetable.file.now a.timetable.stops n a.timetable.opened a.graph.now c.requires.1 found.transfer_entries (copied ∙ found.first_departures)
    (c.fill_waiting.ensures a.graph.now (departed_front found)) (put_part _ _ (3 * n) (4 * n) (omega arith)) (put_part _ _ (4 * n) (4 * n + a.timetable.stops) (omega arith)) (put_part _ _ (2 * n) (3 * n) (omega arith))

-- Each event is passed by what it is. Assumes nothing.
use Rattle.std.proofs.Common.{arith}
use Rattle.boards.proofs.Opened.{to_below}
use Rattle.transfers.proofs.Passing.{last_of_front, next_slot, event_below, swept_skip, swept_ready, swept_depart, swept_end}
use Rattle.transfers.proofs.fill_transfers.Goals as goal

pub loop-event-preserved-then-e-n : goal.loop-event-preserved-then-e-n
loop-event-preserved-then-e-n c =
    let passed = c.loop-event.invariant in
    let last = c.in-Some.ensures.steps in
    let next = last_of_front c.args.order.now _ _ _ passed.left_is last in
    let o = c.args.timetable.opened in
    record {
      left_is = next.1;
      departures = omega arith;
      swept = λ g w.
          rw c.to-stop.ensures.value
          (swept_ready w (rw next.0 at (passed.swept g w)) (next_slot w _ (omega (arith, o.connections)) passed.left_is last) (omega (arith, o.connections)) (omega (arith, to_below o _ c.if-e-n.true)));
    }

pub departure_board-board-requires : goal.departure_board-board-requires
departure_board-board-requires c =
    let passed = c.loop-event.invariant in
    let last = c.in-Some.ensures.steps in
    let next = last_of_front c.args.order.now _ _ _ passed.left_is last in
    let o = c.args.timetable.opened in
    let w = c.requires.ordered.1 in
    omega (arith, event_below w (next_slot w _ (omega (arith, o.connections)) passed.left_is last) c.if-e.true)

pub loop-event-preserved-then-e : goal.loop-event-preserved-then-e
loop-event-preserved-then-e c =
    let passed = c.loop-event.invariant in
    let last = c.in-Some.ensures.steps in
    let next = last_of_front c.args.order.now _ _ _ passed.left_is last in
    let o = c.args.timetable.opened in
    record {
      left_is = next.1;
      departures = omega arith;
      swept = λ g w.
          let slot = next_slot w _ (omega (arith, o.connections)) passed.left_is last in
          rw c.departure_board-board.ensures.value
          (swept_depart w (rw next.0 at (passed.swept g w)) slot _ (omega (arith, event_below w slot c.if-e.true, o.connections)) (omega (arith, o.connections)) (omega arith));
    }

pub loop-event-preserved : goal.loop-event-preserved
loop-event-preserved c =
    let passed = c.loop-event.invariant in
    let last = c.in-Some.ensures.steps in
    let next = last_of_front c.args.order.now _ _ _ passed.left_is last in
    record {
      left_is = next.1;
      departures = omega arith;
      swept = λ g w. swept_skip w (rw next.0 at (passed.swept g w)) (next_slot w _ (omega (arith, c.args.timetable.opened.connections)) passed.left_is last) c.if-e.false;
    }

pub returns : goal.returns
returns c =
    λ g w. swept_end w (c.loop-event.invariant.swept g w) c.in-None.ensures.steps.0 (omega (arith, c.args.timetable.opened.stops)) (omega (arith, c.args.timetable.opened.connections))

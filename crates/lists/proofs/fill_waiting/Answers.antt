-- `heads` has the first of each board of the departures passed, and `part` their waiting entries. Assumes nothing.
use Rattle.std.proofs.Common.{◌≡◌, ℕ, ◌<◌, length, refl, arith, length-take}
use Rattle.std.proofs.Math.ListN.{length-replicate}
use Rattle.timetable.specs.Check.{max_stops}
use Rattle.model.specs.Least.{none}
use Rattle.boards.proofs.Opened.{board_below}
use Rattle.sorting.proofs.Sorting.{own_front_each}
use Rattle.lists.proofs.Awaiting.{waited_none, waited_more, waited_all}
use Rattle.lists.proofs.fill_waiting.Goals as goal

pub loop-c-init : goal.loop-c-init
loop-c-init c = λ g d. waited_none _ _ (own_front_each c.args.timetable.stops max_stops none (omega arith))

pub loop-c-preserved : goal.loop-c-preserved
loop-c-preserved c =
    let left : c.loop-c.c-index < length c.args.departed.now = omega arith in
    let long : length c.loop-c.heads ≡ c.args.timetable.stops = omega (arith, c.loop-c.auto.heads, length-take {A = ℕ}, length-replicate {A = ℕ}) in
    λ g d.
    rw c.departure_board-board.ensures.value
    (waited_more d left refl (omega (arith, board_below c.args.timetable.opened, d.falling.each c.loop-c.c-index)) (c.loop-c.invariant g d))

pub returns : goal.returns
returns c =
    let passed : c.loop-c.c-index ≡ length c.args.departed.now = omega arith in
    λ g d. waited_all d (rw passed at (c.loop-c.invariant g d)) (omega arith)

-- `dialogue::work_block` meets its contract: the lines up to `at` are worked. Assumes nothing.
use Rattle.model.specs.Day.{day_of, lent}
use Rattle.input.proofs.Whole.{stop_within}
use Rattle.turns.specs.Turns.{state}
use Rattle.dialogue.proofs.Talks.{talked_none, talked_turn}
use Rattle.dialogue.proofs.work_block.Goals as goal

pub loop-end-init : goal.loop-end-init
loop-end-init c =
    let a = c.args in
    talked_none (day_of a.file.now) (state (lent a.notices.now a.graph.now) a.work.now a.journey.now) a.block.now a.out.now

pub slice_bounds-work_line-end-in-Some : goal.slice_bounds-work_line-end-in-Some
slice_bounds-work_line-end-in-Some c =
    let found = c.in-Some.ensures in
    stop_within c.args.block.now c.loop-end.at c.in-Some.end found.1 found.0

pub loop-end-preserved : goal.loop-end-preserved
loop-end-preserved c =
    let found = c.in-Some.ensures in
    talked_turn c.loop-end.invariant c.in-Some.end found.1 found.0 c.work_line-size.ensures

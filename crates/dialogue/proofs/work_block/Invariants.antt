-- `dialogue::work_block` meets its contract: the lines up to `at` are worked, and each turn leaves fewer bytes. Assumes nothing.
use Rattle.std.proofs.Common.{◌-◌, length}
use Rattle.model.specs.Day.{day_of, lent}
use Rattle.turns.specs.Turns.{state}
use Rattle.dialogue.specs.Worked.{Talked}
use Rattle.dialogue.proofs.work_block.Given as goal

abbrev pub invariant-loop-end : goal.invariant-loop-end
invariant-loop-end l =
    let before = state (lent l.initial.notices l.initial.graph) l.initial.work l.initial.journey in
    let now = state (lent l.notices l.graph) l.work l.journey in
    Talked (day_of l.file) before now l.block l.at l.size l.out l.initial.out

abbrev pub decreases-loop-end : goal.decreases-loop-end
decreases-loop-end l = length l.block - l.at

-- What is not worked yet lies in the block, which keeps its length. Assumes nothing.
use Rattle.std.proofs.Common.{◌≡◌, ◌≤◌, length}
use Rattle.console.proofs.work_lines.Given as goal

abbrev pub invariant-loop : goal.invariant-loop
invariant-loop g l = (l.at ≤ l.end) × (l.end ≤ length l.block) × (length l.block ≡ length l.initial.block)

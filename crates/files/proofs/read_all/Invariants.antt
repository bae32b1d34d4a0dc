-- What is read stays within the area, and each turn leaves less room. Assumes nothing.
use Rattle.std.proofs.Common.{◌-◌, ◌≤◌, length}
use Rattle.files.proofs.read_all.Given as goal

abbrev pub invariant-loop-n : goal.invariant-loop-n
invariant-loop-n g l = l.n ≤ length l.area

abbrev pub decreases-loop-n : goal.decreases-loop-n
decreases-loop-n g l = length l.area - l.n

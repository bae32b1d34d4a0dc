-- The numbers are looked at one by one.
use Rattle.std.proofs.Common.{◌≡◌, ◌&&◌, length, drop, replicate}
use Rattle.model.specs.Drawn.{same}
use Rattle.rows.specs.Rows.{all_zero}
use Rattle.rows.proofs.all_zero.Given as goal

abbrev pub invariant-loop-x : goal.invariant-loop-x
invariant-loop-x l =
    l.all && same (drop l.x-index l.xs) (drop l.x-index (replicate (length l.xs) 0)) ≡ all_zero l.xs

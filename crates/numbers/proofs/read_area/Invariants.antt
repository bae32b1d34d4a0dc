-- `numbers::read_area` meets its contract. The loop's invariant: the area is the one that came with the first i
-- numbers of the bytes written over it. The measure is the numbers left. Assumes nothing.
use Rattle.std.proofs.Common.{◌≡◌, ◌-◌, ◌≤◌, length, take}
use Rattle.numbers.specs.Numbers.{numbers_of, over}
use Rattle.numbers.proofs.read_area.Given as goal

abbrev pub invariant-loop-i : goal.invariant-loop-i
invariant-loop-i l =
    (length l.area ≡ length l.initial.area) × (l.area ≡ over (take l.i (numbers_of l.bytes)) l.initial.area)

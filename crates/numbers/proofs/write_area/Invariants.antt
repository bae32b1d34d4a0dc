-- `numbers::write_area` meets its contract. The loop's invariant: the bytes are those that came with the first i
-- numbers of the area written over them. The measure is the numbers left. Assumes nothing.
use Rattle.std.proofs.Common.{◌≡◌, ◌-◌, ◌≤◌, length, take}
use Rattle.numbers.specs.Numbers.{over_bytes}
use Rattle.numbers.proofs.write_area.Given as goal

abbrev pub invariant-loop-i : goal.invariant-loop-i
invariant-loop-i l =
    (length l.bytes ≡ length l.initial.bytes) × (l.bytes ≡ over_bytes (take l.i l.area) l.initial.bytes)

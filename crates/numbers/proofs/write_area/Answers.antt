-- `numbers::write_area` meets its contract. The loop's invariant: the bytes are those that came with the first i
-- numbers of the area written over them. The measure is the numbers left. Assumes nothing.
use Rattle.std.proofs.Common.{◌≡◌, ◌/◌, ◌%◌, get_or, ◌∙◌, arith, length-set, rules}
use Rattle.numbers.specs.Numbers.{over_bytes}
use Rattle.numbers.proofs.Turns.{bytes_turn, bytes_done}
use Rattle.numbers.specs.Numbers.{byte_size}
use Rattle.numbers.proofs.write_area.Goals as goal

pub loop-i-init : goal.loop-i-init
unfolding over_bytes
loop-i-init c =
    search rules

pub bounds-bytes-i-in-loop-i : goal.bounds-bytes-i-in-loop-i
bounds-bytes-i-in-loop-i c =
    simp length-set (omega arith)

pub loop-i-preserved : goal.loop-i-preserved
loop-i-preserved c =
    let a = c.args in (
      simp length-set c.loop-i.invariant.0,
      let low : get_or c.to_le_bytes.result 0 0 ≡ get_or a.area.now c.loop-i.i 0 % byte_size = rw c.to_le_bytes.ensures in
          let high : get_or c.to_le_bytes.result 1 0 ≡ get_or a.area.now c.loop-i.i 0 / byte_size = rw c.to_le_bytes.ensures (omega (arith, c.type_inv.area c.loop-i.i)) in
          rw (c.loop-i.invariant.1, low, high) (bytes_turn a.area.now a.bytes.now c.loop-i.i (omega arith) (omega arith)),
    )

pub returns : goal.returns
returns c =
    let a = c.args in
    c.loop-i.invariant.1 ∙ bytes_done a.area.now a.bytes.now c.loop-i.i (omega arith)

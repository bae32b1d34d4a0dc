-- `numbers::read_area` meets its contract. The loop's invariant: the area is the one that came with the first i
-- numbers of the bytes written over it. The measure is the numbers left. Assumes nothing.
use Rattle.std.proofs.Common.{◌≡◌, ℕ, ◌<◌, List, length, get_or, sym, ◌∙◌, arith, length-set, rules}
use Rattle.numbers.specs.Numbers.{numbers_of, over}
use Rattle.numbers.proofs.Areas.{length_numbers, number_at_lem}
use Rattle.numbers.proofs.Turns.{over_turn, over_done}
use Rattle.numbers.proofs.read_area.Goals as goal

pub loop-i-init : goal.loop-i-init
unfolding over
loop-i-init c =
    search rules

pub loop-i-preserved : goal.loop-i-preserved
loop-i-preserved c =
    let a = c.args in
    let ns : List ℕ = numbers_of a.bytes.now in
    let i : ℕ = c.loop-i.i in
    let k : i < length ns = omega (arith, length_numbers a.bytes.now) in
    let e : c.number_at.result ≡ get_or ns i 0 = c.number_at.ensures ∙ sym (number_at_lem a.bytes.now i (omega arith)) in (
      simp length-set c.loop-i.invariant.0,
      rw (c.loop-i.invariant.1, e) (over_turn ns a.area.now i k),
    )

pub returns : goal.returns
returns c =
    let a = c.args in
    c.loop-i.invariant.1
    ∙ over_done (numbers_of a.bytes.now) a.area.now c.loop-i.i (omega (arith, length_numbers a.bytes.now))

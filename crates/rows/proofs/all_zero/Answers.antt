-- The numbers are looked at one by one.
use Rattle.std.proofs.Common.{Bool, ◌&&◌, sym, refl, ap, ◌∙◌, arith}
use mathlib.Core.Bool.{and-true}
use Rattle.rows.proofs.Zeros.{zero_on, zero_not, zero_end}
use Rattle.rows.proofs.all_zero.Goals as goal
use Rattle.rows.proofs.all_zero.Goals.{else-x-ne0, then-x-ne0}

pub loop-x-init : goal.loop-x-init
loop-x-init c =
    refl

pub loop-x-preserved : goal.loop-x-preserved
loop-x-preserved c =
    let xs = c.args.xs.now in
    elim c.if-x-ne0.branch [ then-x-ne0 w ↦ zero_not c.loop-x.all c.if-x-ne0.all xs c.loop-x.x-index c.loop-x-test.true c.loop-x.invariant w.if-x-ne0.true w.all-is | else-x-ne0 w ↦ zero_on c.loop-x.all c.if-x-ne0.all xs c.loop-x.x-index c.loop-x-test.true c.loop-x.invariant w.if-x-ne0.false w.all-is ]

pub returns : goal.returns
returns c =
    let xs = c.args.xs.now in
    let all = c.loop-x.all in
    sym (and-true all) ∙ ap (λ (b : Bool). all && b) (sym (zero_end xs c.loop-x.x-index (omega arith))) ∙ c.loop-x.invariant

-- The delay that prevails, in one number.
use Rattle.std.proofs.Common.{◌≡◌, true, false, sym, refl, ◌∙◌, arith}
use Rattle.model.specs.Times.{given_by, prevails}
use Rattle.model.proofs.Primary.{with_prevailing, with_yielding}
use Rattle.delays.specs.Delays.{primary_in}
use Rattle.delays.proofs.Walk.{pair_in}
use Rattle.delays.proofs.with_notice.Goals as goal

pub returns-then-prevails : goal.returns-then-prevails
returns-then-prevails c =
    let n = c.args.notice in
    let before = primary_in c.args.x in
    let t : prevails (given_by n) before ≡ true = rw c.primary_in.ensures at (sym c.prevails.ensures ∙ c.if-prevails.true) in
    pair_in n.delay n.number (omega arith) ∙ sym (with_prevailing n.connection n before refl t)

pub returns : goal.returns
returns c =
    let n = c.args.notice in
    let before = primary_in c.args.x in
    let t : prevails (given_by n) before ≡ false = rw c.primary_in.ensures at (sym c.prevails.ensures ∙ c.if-prevails.false) in
    sym (with_yielding n.connection n before refl t)

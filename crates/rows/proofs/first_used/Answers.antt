-- The other rows are checked one by one.
use Rattle.std.proofs.Common.{◌+◌, ◌*◌, not, sym, ap, ◌∙◌, arith}
use Rattle.model.specs.Notices.{width, room}
use Rattle.model.proofs.Rows.{unused_after}
use Rattle.rows.proofs.Checking.{unused_start, check_wrong, unused_on, check_end}
use Rattle.rows.proofs.Zeros.{row_zero}
use Rattle.rows.proofs.first_used.Goals as goal

pub loop-k-init : goal.loop-k-init
loop-k-init c =
    (omega arith, unused_start c.args.counted.notices.now)

pub returns-then-not-all_zero : goal.returns-then-not-all_zero
returns-then-not-all_zero c =
    let area = c.args.counted.notices.now in
    let at = 1 + width * c.loop-k.k in
    let row = c.all_zero.ensures ∙ row_zero area at (omega arith) in
    check_wrong unused_after area room c.loop-k.k 0 c.loop-k-test.true row (ap not c.if-not-all_zero.true) c.loop-k.invariant.1

pub loop-k-preserved : goal.loop-k-preserved
loop-k-preserved c =
    let area = c.args.counted.notices.now in
    let at = 1 + width * c.loop-k.k in
    let row = c.all_zero.ensures ∙ row_zero area at (omega arith) in
    (omega arith, unused_on area c.loop-k.k c.loop-k-test.true row (ap not c.if-not-all_zero.false) c.loop-k.invariant.1)

pub returns : goal.returns
returns c =
    let area = c.args.counted.notices.now in
    sym (check_end unused_after area room c.loop-k.k 0 (omega arith)) ∙ c.loop-k.invariant.1

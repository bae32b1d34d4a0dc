-- The rows that stand are checked one by one.
use Rattle.std.proofs.Common.{◌+◌, ◌*◌, not, sym, ap, ◌∙◌, arith}
use Rattle.model.specs.Notices.{count_in, stands_right}
use Rattle.rows.proofs.Checking.{to_check, standing_start, check_wrong, check_right, check_end}
use Rattle.model.specs.Notices.{width}
use Rattle.model.specs.declared.Notice.{Notice}
use Rattle.model.proofs.Areas.{row_at_lem}
use Rattle.rows.proofs.check_standing.Goals as goal

pub loop-k-init : goal.loop-k-init
loop-k-init c =
    let a = c.args in (omega arith, standing_start a.n a.counted.notices.now)

pub returns-then-not-stands_right : goal.returns-then-not-stands_right
returns-then-not-stands_right c =
    let a = c.args in
    check_wrong (stands_right a.n) a.counted.notices.now _ c.loop-k.k c.loop-k.before c.loop-k-test.true (c.stands_right.ensures ∙ ap (stands_right a.n c.loop-k.before) (c.row_at-row.ensures ∙ row_at_lem a.counted.notices.now (1 + width * c.loop-k.k))) (ap not c.if-not-stands_right.true) c.loop-k.invariant.1

pub loop-k-preserved : goal.loop-k-preserved
loop-k-preserved c =
    let a = c.args in
    let at = 1 + width * c.loop-k.k in
    let row = c.row_at-row.ensures ∙ row_at_lem a.counted.notices.now at in
    (omega arith, ap (λ (r : Notice). to_check (stands_right a.n) a.counted.notices.now (count_in a.counted.notices.now) (c.loop-k.k + 1) r.number) row ∙ check_right (stands_right a.n) a.counted.notices.now _ c.loop-k.k c.loop-k.before c.loop-k-test.true (c.stands_right.ensures ∙ ap (stands_right a.n c.loop-k.before) (c.row_at-row.ensures ∙ row_at_lem a.counted.notices.now (1 + width * c.loop-k.k))) (ap not c.if-not-stands_right.false) c.loop-k.invariant.1)

pub returns : goal.returns
returns c =
    let a = c.args in
    sym (check_end (stands_right a.n) a.counted.notices.now (count_in a.counted.notices.now) c.loop-k.k c.loop-k.before (omega arith)) ∙ c.loop-k.invariant.1

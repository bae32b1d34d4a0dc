-- The number is looked for row by row.
use Rattle.std.proofs.Common.{sym, arith}
use Rattle.model.specs.Notices.{count_in}
use Rattle.notices.proofs.Finding.{find_start, find_here, find_on, find_end}
use Rattle.notices.proofs.Counted.row_of.Goals as goal

pub loop-k-init : goal.loop-k-init
loop-k-init c =
    find_start c.args.self.notices.now c.args.number

pub returns-then-notices-k : goal.returns-then-notices-k
returns-then-notices-k c =
    let a = c.args in
    (find_here a.self.notices.now _ c.loop-k.k a.number c.loop-k-test.true c.loop-k.invariant c.if-notices-k.true, c.loop-k-test.true)

pub loop-k-preserved : goal.loop-k-preserved
loop-k-preserved c =
    let a = c.args in
    find_on a.self.notices.now _ c.loop-k.k a.number c.loop-k-test.true c.loop-k.invariant c.if-notices-k.false

pub returns : goal.returns
returns c =
    let a = c.args in
    sym (find_end a.self.notices.now (count_in a.self.notices.now) c.loop-k.k a.number (omega arith) c.loop-k.invariant)

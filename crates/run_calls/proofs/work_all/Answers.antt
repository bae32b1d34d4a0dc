-- `run_calls::work_all` meets its contract. Assumes nothing.
use Rattle.std.proofs.Common.{◌≡◌, ◌*◌, ◌≤◌, length, arith}
use Rattle.refusals.specs.Answers.{told}
use Rattle.model.specs.Day.{day_of, lent}
use Rattle.run_calls.specs.Calls.{answer_width}
use Rattle.run_calls.proofs.Turn.{start, turn, end}
use Rattle.run_calls.proofs.work_all.Goals as goal

pub loop-k-init : goal.loop-k-init
loop-k-init c =
    start _ _ _ _ _

pub loop-k-preserved : goal.loop-k-preserved
loop-k-preserved c =
    let a = c.args in
    let l = c.loop-k in
    let n = c.min-n.result in
    let after = c.work_call-noted.new in
    let h : answer_width * n ≤ length l.answers = omega (arith, c.min-n.ensures) in
    rw (c.number_of-first.ensures, c.value_of-second.ensures)
    (turn (day_of a.file.now) a.calls.now n _ _ l.k (lent l.notices l.graph) l.answers (lent after.notices after.graph) (told c.work_call-noted.result) c.loop-k-test.true h c.work_call-noted.ensures l.invariant)

pub returns : goal.returns
returns c =
    let l = c.loop-k in
    let e : l.k ≡ c.min-n.result = omega arith in
    rw (← c.min-n.ensures) (end (day_of c.args.file.now) c.args.calls.now c.min-n.result _ _ l.k (lent l.notices l.graph) l.answers e l.invariant)

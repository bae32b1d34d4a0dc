-- `feeds::read_body` meets its contract: before each line, what is left to do gives what the whole gives. Assumes nothing.
use Rattle.std.proofs.Common.{◌≡◌, ◌+◌, Some, None, Err, arith}
use Rattle.feeds.proofs.Turns.{reached_first, reached_next, reached_wrong}
use Rattle.feeds.proofs.Verdicts.{row_wrong, alone_wrong, rows_right}
use Rattle.refusals.specs.declared.Reason.TheVariants as R
use Rattle.feeds.proofs.read_body.Goals as goal

pub loop-at-init : goal.loop-at-init
loop-at-init c = reached_first c.args.text.now c.args.area.now c.requires

pub returns-in_err-progress : goal.returns-in_err-progress
returns-in_err-progress c =
    let n : c.take_row.result ≡ None = grind arith in
    let e : c.from_residual.result ≡ Err (R.WrongTextRow, c.loop-at.progress.row + 1) = grind arith in
    rw e
    (row_wrong c.args.text.now c.args.area.now c.take_row.new.area c.requires.header c.loop-at.progress.row
    (reached_wrong c.loop-at.invariant (omega arith) c.take_row.ensures n))

pub loop-at-preserved : goal.loop-at-preserved
loop-at-preserved c =
    let s : c.take_row.result ≡ Some (c.in_ok-progress.field-0-0, c.in_ok-progress.field-0-1) = grind arith in
    (reached_next c.loop-at.invariant c.take_row.ensures s).1

pub returns-in-Some : goal.returns-in-Some
returns-in-Some c =
    alone_wrong c.args.text.now c.args.area.now c.loop-at.area c.requires.header c.loop-at.invariant c.loop-at-test.false
    c.in-Some.row c.in-Some.ensures

pub returns-in-None : goal.returns-in-None
returns-in-None c =
    rows_right c.args.text.now c.args.area.now c.loop-at.area c.requires.header c.loop-at.invariant c.loop-at-test.false
    c.in-None.ensures

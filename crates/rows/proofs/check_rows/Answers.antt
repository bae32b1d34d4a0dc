-- The count, the rows that stand, the other rows.
use Rattle.std.proofs.Common.{le-ltb, lt-ltb}
use Rattle.model.specs.Notices.{rows_verdict}
use Rattle.std.proofs.lemmas.Result.{err_from_is_err_and}
use Rattle.rows.proofs.check_rows.Goals as goal

pub returns-then-notices-gt-ROOM : goal.returns-then-notices-gt-ROOM
unfolding rows_verdict
returns-then-notices-gt-ROOM c =
    rw (lt-ltb _ _ c.if-notices-gt-ROOM.true)

pub returns-in_err-check_standing : goal.returns-in_err-check_standing
unfolding rows_verdict
returns-in_err-check_standing c =
    let p = err_from_is_err_and c.from_residual.result c.from_residual.ensures.1 in
    rw (p.1, p.2, le-ltb _ _ c.if-notices-gt-ROOM.false, ← c.in_err-check_standing.ensures)

pub returns : goal.returns
unfolding rows_verdict
returns c =
    rw (le-ltb _ _ c.if-notices-gt-ROOM.false, ← c.in_ok-check_standing.ensures) c.check_unused.ensures

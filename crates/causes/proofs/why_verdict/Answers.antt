-- The room, the rows, the connection.
use Rattle.std.proofs.Common.{◌<◌, ◌≤◌, le-ltb, lt-ltb, le-leb}
use borrow.Author.Tests.{lt-leb}
use Rattle.model.specs.Operations.{why_verdict}
use Rattle.std.proofs.lemmas.Result.{err_from_is_err_and}
use Rattle.causes.proofs.why_verdict.Goals as goal

pub returns-then-notices-lt-NOTICES_LENGTH : goal.returns-then-notices-lt-NOTICES_LENGTH
unfolding why_verdict
returns-then-notices-lt-NOTICES_LENGTH c =
    rw (lt-ltb _ _ c.if-notices-lt-NOTICES_LENGTH.true)

pub returns-in_err-check_rows : goal.returns-in_err-check_rows
unfolding why_verdict
returns-in_err-check_rows c =
    let p = err_from_is_err_and c.from_residual.result c.from_residual.ensures.1 in
    rw (p.1, p.2, le-ltb _ _ c.if-notices-lt-NOTICES_LENGTH.false, ← c.in_err-check_rows.ensures)

pub returns-then-connections-connection : goal.returns-then-connections-connection
unfolding why_verdict
returns-then-connections-connection c =
    let l : c.args.connections ≤ c.args.connection = c.if-connections-connection.true in
    rw (le-ltb _ _ c.if-notices-lt-NOTICES_LENGTH.false, ← c.in_ok-check_rows.ensures, le-leb _ _ l)

pub returns : goal.returns
unfolding why_verdict
returns c =
    let l : c.args.connection < c.args.connections = c.if-connections-connection.false in
    rw (le-ltb _ _ c.if-notices-lt-NOTICES_LENGTH.false, ← c.in_ok-check_rows.ensures, lt-leb _ _ l)

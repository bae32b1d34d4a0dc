-- `checks::areas_verdict` meets its contract. Assumes nothing.
use Rattle.std.proofs.Common.{sym}
use Rattle.std.proofs.lemmas.Result.{err_from_is_err_and}
use Rattle.checks.proofs.areas_verdict.Goals as goal

pub returns-in_err-room_verdict : goal.returns-in_err-room_verdict
returns-in_err-room_verdict c =
    let p = err_from_is_err_and c.from_residual.result c.from_residual.ensures.1 in
    rw (p.1, p.2, ← c.in_err-room_verdict.ensures)

pub contents_verdict-requires : goal.contents_verdict-requires
contents_verdict-requires c =
    sym c.in_ok-room_verdict.ensures

pub returns : goal.returns
returns c =
    rw (← c.in_ok-room_verdict.ensures) c.contents_verdict.ensures

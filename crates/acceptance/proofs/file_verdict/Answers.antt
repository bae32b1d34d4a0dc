-- `acceptance::file_verdict` meets its contract. Assumes nothing.
use Rattle.std.proofs.Common.{sym}
use Rattle.timetable.specs.Check.{file_verdict}
use Rattle.timetable.proofs.Rules.{header_past}
use Rattle.std.proofs.lemmas.Result.{err_from_is_err_and}
use Rattle.acceptance.proofs.file_verdict.Goals as goal

pub returns-in_err-header_verdict : goal.returns-in_err-header_verdict
unfolding file_verdict
returns-in_err-header_verdict c =
    let p = err_from_is_err_and c.from_residual.result c.from_residual.ensures.1 in
    rw (p.1, p.2, ← c.in_err-header_verdict.ensures)

pub body_verdict-requires : goal.body_verdict-requires
body_verdict-requires c =
    header_past c.args.file.now (sym c.in_ok-header_verdict.ensures)

pub returns : goal.returns
unfolding file_verdict
returns c =
    rw (← c.in_ok-header_verdict.ensures) c.body_verdict.ensures

-- `runs::run` meets its contract. Assumes nothing.
use Rattle.std.proofs.lemmas.Result.{err_from_is_err_and}
use Rattle.runs.proofs.Building.{not_built, all_worked}
use Rattle.runs.proofs.run.Goals as goal

pub returns-in_err-counts : goal.returns-in_err-counts
returns-in_err-counts c =
    let p = err_from_is_err_and c.from_residual.result c.from_residual.ensures.1 in
    rw (p.1, p.2) (not_built _ _ _ _ _ _ _ c.in_err-counts.ensures)

pub returns : goal.returns
returns c =
    all_worked _ _ _ _ _ _ _ _ c.in_ok-counts.ensures c.work_all.ensures

-- `imports::finish_file` meets its contract: the check answers for the file that stands there. Assumes nothing.
use native.Mathlib.Nat.{sub-zero}
use Rattle.timetable.proofs.Accepted.{accepted_iff}
use Rattle.timetable.proofs.Answered.{opened_by, refused_by}
use Rattle.imports.proofs.Making.{finished}
use Rattle.std.proofs.lemmas.Result.{err_from_is_err_and}
use Rattle.imports.proofs.finish_file.Goals as goal

pub returns-in_err-check : goal.returns-in_err-check
returns-in_err-check c =
    let p = err_from_is_err_and c.from_residual.result c.from_residual.ensures.1 in
    finished _ _ _ _ _ c.requires c.put_header.ensures
    (rw (p.1, p.2.0, p.2.1, refused_by _ _ _ (rw sub-zero at c.in_err-check.ensures)))

pub returns : goal.returns
returns c =
    let o = opened_by _ c.in_ok-check.field-0 (rw sub-zero at c.in_ok-check.ensures) in
    finished _ _ _ _ _ c.requires c.put_header.ensures (rw ((accepted_iff _).1 o.timetable))

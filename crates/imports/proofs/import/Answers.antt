-- `imports::import` meets its contract: the file is made, then delivered. Assumes nothing.
use Rattle.std.proofs.Common.{refl, ap, ◌∙◌}
use native.Mathlib.Nat.{sub-zero}
use Rattle.refusals.specs.Answers.{accepted}
use Rattle.gtfs.specs.Conversions.{conversion}
use Rattle.std.proofs.lemmas.Result.{err_from_is_err_and}
use Rattle.imports.proofs.Making.{delivered_whole, delivered_none, delivered_import}
use Rattle.imports.proofs.import.Goals as goal

pub returns-in_err-n : goal.returns-in_err-n
returns-in_err-n c =
    let p = err_from_is_err_and c.from_residual.result c.from_residual.ensures.1 in
    rw (p.1, p.2) (delivered_import _ c.in_err-n.ensures)

pub returns-then-output-n : goal.returns-then-output-n
returns-then-output-n c =
    delivered_none _ _ _ (c.in_ok-n.ensures.within _ refl) c.if-output-n.true ∙ delivered_import _ c.in_ok-n.ensures

pub returns : goal.returns
returns c =
    ap (conversion (accepted c.in_ok-n.n)) (rw sub-zero at c.put_text.ensures.stands)
    ∙ delivered_whole _ _ _ (c.in_ok-n.ensures.within _ refl) c.if-output-n.false
    ∙ delivered_import _ c.in_ok-n.ensures

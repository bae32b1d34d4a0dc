-- `cuts::column` meets its contract: what stands before the byte that ends it is read. Assumes nothing.
use Rattle.std.proofs.Common.{Some, None, sym, refl, ◌∙◌, rules}
use Rattle.cuts.proofs.Columns.{column_at}
use Rattle.cuts.proofs.column.Goals as goal

pub returns-clause-read : goal.returns-clause-read
returns-clause-read g c =
    let a = c.args in
    let e = c.requires.1.1.1 _ _ (record { shown = _; shows = refl; says = record { met = c.read.ensures } }) in
    column_at g.reads a.byte a.text.now a.at _ (search rules) (search rules) (Some c.in_ok-read.field-0) (sym c.in_ok-read.was ∙ e)

pub returns-in_err-read-clause-read : goal.returns-in_err-read-clause-read
returns-in_err-read-clause-read g c =
    let a = c.args in
    let e = c.requires.1.1.1 _ _ (record { shown = _; shows = refl; says = record { met = c.read.ensures } }) in
    search rules ∙ column_at g.reads a.byte a.text.now a.at _ (search rules) (search rules) None (sym c.in_err-read.was ∙ e)

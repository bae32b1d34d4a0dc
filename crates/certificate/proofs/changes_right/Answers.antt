-- `certificate::changes_right` meets its contract: what `all` tells of the connections. Assumes nothing.
use Rattle.std.proofs.Common.{ℕ, refl, arith, rules}
use Rattle.std.proofs.lemmas.Iterator.{cases_from_all, YieldsList-from_range}
use Rattle.model.specs.Shown.{shown}
use Rattle.links.proofs.Telling.{tells_below}
use Rattle.changes.specs.Changes.{ChangeLink}
use Rattle.certificate.proofs.changes_right.Goals as goal

pub returns : goal.returns
returns c =
    let s = c.args.marked.shown in
    let g = s.graph.now in
    let Fits : ℕ → Type 0 = ChangeLink (shown s.timetable.file.now g) g c.args.marked.marks.now c.args.marked.lasts.now in
    let n = s.timetable.connections in
    tells_below Fits _ n
    (cases_from_all _ _ _ Fits (λ k. Fits k → ⊥) c.all.ensures.ran (YieldsList-from_range 0 n n refl (omega arith)) (λ x q h. search rules) (λ x q h. search rules))

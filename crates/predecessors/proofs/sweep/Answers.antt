-- `predecessors::sweep` meets its contract. Assumes nothing.
use Rattle.std.proofs.Common.{◌∙◌}
use Rattle.graph.proofs.Read.{readable}
use Rattle.predecessors.proofs.Passes.{pass_turn, pass_ends}
use Rattle.predecessors.proofs.sweep.Goals as goal

pub loop-d-preserved : goal.loop-d-preserved
loop-d-preserved c =
    let l = c.loop-d in
    let n = c.args.search.network in
    (l.invariant.0, pass_turn _ _ _ (readable n) l.invariant.0 _ (c.fill.ensures.len ∙ c.requires.work_len ∙ n.shown.timetable.opened.connections) _ _ _ c.loop-d-test.true _ _ l.invariant.1 c.turn.ensures)

pub returns : goal.returns
returns c =
    let l = c.loop-d in
    let n = c.args.search.network in
    pass_ends _ _ _ (readable n) l.invariant.0 _ (c.fill.ensures.len ∙ c.requires.work_len ∙ n.shown.timetable.opened.connections) _ _ _ l.auto.d-index-end c.loop-d-test.false _ l.invariant.1

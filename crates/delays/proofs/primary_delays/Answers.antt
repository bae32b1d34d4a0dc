-- What the rows that are left make of the primary delays so far.
use Rattle.std.proofs.Common.{◌∙◌, arith}
use Rattle.model.specs.Notices.{row_at}
use Rattle.delays.proofs.Walk.{walk_start, turn_set, turn_past, walk_turn, walk_end}
use Rattle.delays.proofs.primary_delays.Goals as goal

pub loop-row-init : goal.loop-row-init
loop-row-init c =
    let e = c.chunks_exact-row-items.ensures in
    rw c.into_iter-row-iterator.ensures.into_iter_gives (e.size, rw e.rest (walk_start c.args.rows.now c.args.primaries.now c.requires))

pub loop-row-preserved-then-c-primaries : goal.loop-row-preserved-then-c-primaries
loop-row-preserved-then-c-primaries c =
    let s = c.in-Some.ensures.steps in
    let i = c.loop-row.invariant in
    let e = c.row_at-notice.ensures in
    let n = row_at c.in-Some.row.now in
    rw e (
      s.0 ∙ i.0,
      walk_turn c.args.rows.now _ c.in-Some.row.now _ c.loop-row.primaries _ _ s.1.0 (s.1.1 ∙ i.0) i.1
          (λ k h. turn_set n c.loop-row.primaries _ (rw e at c.if-c-primaries.true) (rw e at c.with_notice.ensures) k),
    )

pub loop-row-preserved : goal.loop-row-preserved
loop-row-preserved c =
    let s = c.in-Some.ensures.steps in
    let i = c.loop-row.invariant in
    let e = c.row_at-notice.ensures in
    let n = row_at c.in-Some.row.now in (
      s.0 ∙ i.0,
      walk_turn c.args.rows.now _ c.in-Some.row.now _ c.loop-row.primaries _ _ s.1.0 (s.1.1 ∙ i.0) i.1
          (λ k h. turn_past n c.loop-row.primaries (rw e at c.if-c-primaries.false) k (omega arith)),
    )

pub returns : goal.returns
returns c =
    let s = c.in-None.ensures.steps in
    let i = c.loop-row.invariant in
    walk_end c.args.rows.now _ c.loop-row.primaries _ (omega arith) c.loop-row.auto.primaries i.1

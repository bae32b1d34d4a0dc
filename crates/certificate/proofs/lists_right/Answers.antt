-- `certificate::lists_right` meets its contract: lists that fail a step are not right, and those that pass all four are. Assumes nothing.
use Rattle.std.proofs.Common.{◌≡◌, add-one, arith, below_more}
use Rattle.boards.proofs.Opened.{timed_by}
use Rattle.links.proofs.Telling.{tells_not, tells_as}
use Rattle.certificate.proofs.Whole.{links_start, firsts_pass, nexts_pass, marks_pass, changes_pass, passed_right}
use Rattle.certificate.proofs.lists_right.Goals as goal

pub loop-b-init : goal.loop-b-init
loop-b-init c = (λ k h. absurd (omega arith), (links_start (timed_by c.args.shown)).marks)

pub returns-then-not-link_first : goal.returns-then-not-link_first
returns-then-not-link_first c =
    tells_not c.link_first.ensures.tells c.if-not-link_first.true (λ r. firsts_pass (timed_by c.args.shown) r _ c.loop-b-test.true)

pub loop-b-preserved : goal.loop-b-preserved
loop-b-preserved c =
    let s = c.link_first.ensures in
    (below_more _ _ c.loop-b.invariant.0 (s.tells.0 c.if-not-link_first.false), rw (add-one c.loop-b.b) (s.leaves c.if-not-link_first.false))

pub loop-c-init : goal.loop-c-init
loop-c-init c =
    let e : c.loop-b.b ≡ c.args.shown.timetable.stops = omega arith in
    (λ k h. absurd (omega arith), record { marks = rw e at c.loop-b.invariant.1; lasts = (links_start (timed_by c.args.shown)).lasts })

pub returns-then-not-link_next : goal.returns-then-not-link_next
returns-then-not-link_next c =
    tells_not c.link_next.ensures.tells c.if-not-link_next.true (λ r. nexts_pass (timed_by c.args.shown) r _ c.loop-c-test.true)

pub loop-c-preserved : goal.loop-c-preserved
loop-c-preserved c =
    let s = c.link_next.ensures in
    (below_more _ _ c.loop-c.invariant.0 (s.tells.0 c.if-not-link_next.false), rw (add-one c.loop-c.c) (s.leaves c.if-not-link_next.false))

pub returns-then-not-all_marked : goal.returns-then-not-all_marked
returns-then-not-all_marked c =
    let e : c.loop-c.c ≡ c.args.shown.timetable.connections = omega arith in
    let linked = rw e at c.loop-c.invariant.1 in
    tells_not c.all_marked.ensures c.if-not-all_marked.true (marks_pass (timed_by c.args.shown) linked)

pub returns : goal.returns
returns c =
    let l = timed_by c.args.shown in
    let e : c.loop-c.c ≡ c.args.shown.timetable.connections = omega arith in
    let linked = rw e at c.loop-c.invariant.1 in
    let full = c.all_marked.ensures.0 c.if-not-all_marked.false in
    tells_as c.changes_right.ensures
    (passed_right l linked full (λ k h. c.loop-b.invariant.0 k (omega arith)) (λ k h. c.loop-c.invariant.0 k (omega arith)))
    (changes_pass l linked full)

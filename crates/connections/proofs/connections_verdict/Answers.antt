-- `connections::connections_verdict` meets its contract. The invariant: every connection passed by passes. Assumes nothing.
use Rattle.std.proofs.Common.{sym, ◌∙◌, arith, rules}
use Rattle.refusals.specs.Answers.{first_below}
use Rattle.timetable.specs.Check.{connection_verdict}
use Rattle.timetable.proofs.Order.{passed_true, first_refuses, passed_more, passed_all}
use Rattle.std.proofs.lemmas.Result.{err_from_is_err_and}
use Rattle.connections.proofs.connections_verdict.Goals as goal

pub returns-then-connections_pass : goal.returns-then-connections_pass
returns-then-connections_pass c =
    let a = c.args in
    sym (passed_true (first_below (connection_verdict a.fields.file.now) a.fields.connections) (sym c.connections_pass.ensures ∙ c.if-connections_pass.true))

pub loop-c-init : goal.loop-c-init
unfolding first_below
loop-c-init c =
    search rules

pub returns-in_err-connection_verdict : goal.returns-in_err-connection_verdict
returns-in_err-connection_verdict c =
    let a = c.args in
    let q = sym (first_refuses (connection_verdict a.fields.file.now) c.loop-c.c a.fields.connections _ _ c.loop-c-test.true (sym c.in_err-connection_verdict.ensures) c.loop-c.invariant.1) in
    let p = err_from_is_err_and c.from_residual.result c.from_residual.ensures.1 in
    rw (p.1, p.2) q

pub loop-c-preserved : goal.loop-c-preserved
loop-c-preserved c =
    let a = c.args in
    (omega arith, passed_more (connection_verdict a.fields.file.now) c.loop-c.c c.loop-c.invariant.1 (sym c.in_ok-connection_verdict.ensures))

pub returns : goal.returns
returns c =
    let a = c.args in
    sym (passed_all (connection_verdict a.fields.file.now) c.loop-c.c a.fields.connections c.loop-c.invariant.1 c.loop-c.invariant.0 c.loop-c-test.false)

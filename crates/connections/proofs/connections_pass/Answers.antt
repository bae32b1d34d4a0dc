-- `connections::connections_pass` meets its contract. The invariant: every connection passed by passes. Assumes nothing.
use Rattle.std.proofs.Common.{sym, refl, ◌∙◌, arith}
use Rattle.refusals.specs.Answers.{first_below}
use Rattle.timetable.specs.Check.{connection_verdict}
use Rattle.timetable.proofs.Order.{fails_below, passed_true, passed_more, passed_fewer}
use Rattle.refusals.proofs.Told.{err_refused, ok_passed}
use Rattle.successions.specs.Next.{ComesAfter}
use Rattle.timetable.proofs.Rules.{trip_before}
use Rattle.connections.proofs.connections_pass.Goals as goal

pub returns-then-fields-eq0 : goal.returns-then-fields-eq0
unfolding first_below
returns-then-fields-eq0 c =
    rw c.if-fields-eq0.true

pub returns-then-is_err : goal.returns-then-is_err
unfolding first_below
returns-then-is_err c =
    let a = c.args in
    let v = connection_verdict a.fields.file.now in
    sym (fails_below v 0 a.fields.connections (omega arith) (err_refused c.connection_verdict.result _ (sym c.is_err.ensures.value ∙ c.if-is_err.true) c.connection_verdict.ensures) refl)

pub loop-c-init : goal.loop-c-init
unfolding first_below
loop-c-init c =
    (omega arith, passed_more (connection_verdict c.args.fields.file.now) 0 refl (ok_passed c.connection_verdict.result _ (sym c.is_err.ensures.value ∙ c.if-is_err.false) c.connection_verdict.ensures))

pub connection_passes-requires : goal.connection_passes-requires
connection_passes-requires c =
    let next : ComesAfter c.args.fields.file.now c.loop-c.c = record {
      later = c.loop-c.invariant.0;
      few = omega arith;
      trips = trip_before c.args.fields.file.now c.loop-c.c c.loop-c.invariant.0 c.loop-c.invariant.1;
    } in
    (next, omega arith)

pub returns-then-not-connection_passes : goal.returns-then-not-connection_passes
returns-then-not-connection_passes c =
    let a = c.args in
    let e = sym c.connection_passes.ensures ∙ c.if-not-connection_passes.true in
    sym (fails_below (connection_verdict a.fields.file.now) c.loop-c.c a.fields.connections c.loop-c-test.true e c.loop-c.invariant.1)

pub loop-c-preserved : goal.loop-c-preserved
loop-c-preserved c =
    let v = connection_verdict c.args.fields.file.now in
    let e = sym c.connection_passes.ensures ∙ c.if-not-connection_passes.false in
    (omega arith, passed_more v c.loop-c.c c.loop-c.invariant.1 (passed_true (v c.loop-c.c) e))

pub returns : goal.returns
returns c =
    let a = c.args in
    rw (passed_fewer (connection_verdict a.fields.file.now) c.loop-c.c a.fields.connections c.loop-c.invariant.1 (omega arith))

-- `acceptance::stops_verdict` meets its contract. The invariant: every stop passed by passes. Assumes nothing.
use Rattle.std.proofs.Common.{sym, arith, rules}
use Rattle.refusals.specs.Answers.{first_below}
use Rattle.refusals.specs.RefusalNumber as refusal
use Rattle.timetable.specs.Check.{stop_verdict}
use Rattle.timetable.proofs.Order.{first_refuses, passed_more, passed_all}
use Rattle.timetable.proofs.Rules.{rule7}
use Rattle.acceptance.proofs.stops_verdict.Goals as goal

pub loop-s-init : goal.loop-s-init
unfolding first_below
loop-s-init c =
    search rules

pub returns-then-transfer_time-gt-MAX_TRANSFER_TIME : goal.returns-then-transfer_time-gt-MAX_TRANSFER_TIME
returns-then-transfer_time-gt-MAX_TRANSFER_TIME c =
    let a = c.args in
    sym (first_refuses (stop_verdict a.fields.file.now) c.loop-s.s a.n refusal.wrong_transfer_time c.loop-s.s c.loop-s-test.true ((rule7 a.fields.file.now c.loop-s.s).finds (λ h. omega arith)) c.loop-s.invariant.1)

pub loop-s-preserved : goal.loop-s-preserved
loop-s-preserved c =
    let a = c.args in
    (omega arith, passed_more (stop_verdict a.fields.file.now) c.loop-s.s c.loop-s.invariant.1 ((rule7 a.fields.file.now c.loop-s.s).holds (omega arith)))

pub returns : goal.returns
returns c =
    let a = c.args in
    sym (passed_all (stop_verdict a.fields.file.now) c.loop-s.s a.n c.loop-s.invariant.1 c.loop-s.invariant.0 c.loop-s-test.false)

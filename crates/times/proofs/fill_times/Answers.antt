-- The times of the first c connections are written, the rest is as it was, and `before` is the arrival of the connection before c.
-- Assumes nothing.
use Rattle.std.proofs.Common.{◌≡◌, ◌∙◌, arith, rules}
use Rattle.model.specs.Graph.{times}
use Rattle.model.specs.Times.{expected_departure, expected_arrival}
use Rattle.model.proofs.Times.{travel_kept}
use Rattle.times.specs.Times.{conditions_in, network_in}
use Rattle.times.proofs.Filling.{departs_is, arrives_by, times_more}
use Rattle.times.proofs.fill_times.Goals as goal

pub loop-c-init : goal.loop-c-init
unfolding times
loop-c-init c = search rules

pub loop-c-preserved : goal.loop-c-preserved
loop-c-preserved c =
    let f = c.args.timetable.file.now in
    let conditions = conditions_in c.args.primaries.now in
    let i = c.loop-c.c in
    let passed = c.loop-c.invariant in
    let departs : c.times_at-t.result.departure ≡ expected_departure f conditions i =
    rw c.primary_in-primary.ensures at c.times_at-t.ensures.departs ∙ departs_is f conditions i c.loop-c.before passed.before_is in
    let arrives : c.times_at-t.result.arrival ≡ expected_arrival f conditions i = omega (arith, travel_kept f conditions i) in
    record {
      written = times_more (network_in f c.args.primaries.now) i _ _ c.loop-c.area c.args.area.now passed.written (omega arith) departs arrives;
      early = rw arrives (arrives_by f c.args.timetable.stops c.args.timetable.connections c.args.primaries.now c.args.timetable.opened c.requires.0 i c.loop-c-test.true);
      before_is = λ e q. let last : e ≡ i = omega arith in rw last arrives;
    }

-- The times of the first c connections are written, the rest is as it was, and `before` is the arrival of the connection before c.
-- Assumes nothing.
use Rattle.std.proofs.Common.{◌≡◌, ℕ, suc, ◌*◌, ◌≤◌, ◌++◌, drop}
use Rattle.model.specs.Graph.{times}
use Rattle.model.specs.Times.{expected_arrival}
use Rattle.times.specs.Times.{conditions_in, network_in, longest_time}
use Rattle.times.proofs.fill_times.Given as goal

abbrev pub invariant-loop-c : goal.invariant-loop-c
invariant-loop-c l =
    record {
      written : l.area ≡ times (network_in l.timetable.file.now l.primaries) l.c ++ drop (2 * l.c) l.initial.area;
      early : l.before ≤ longest_time;
      before_is : (e : ℕ) → l.c ≡ suc e → l.before ≡ expected_arrival l.timetable.file.now (conditions_in l.primaries) e;
    }

-- `journeys::find_last` meets its contract. Assumes nothing.
use Rattle.model.specs.Shown.{shown}
use Rattle.journeys.specs.Last.{Better}
use Rattle.journeys.proofs.find_last.Given as goal

abbrev pub invariant-loop-c : goal.invariant-loop-c
invariant-loop-c l =
    Better (shown l.network.shown.timetable.file.now l.network.shown.graph.now) l.predecessors l.stop l.c l.best

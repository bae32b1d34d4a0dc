-- `predecessors::sweep` meets its contract. The loop's invariant: the work area is as it is before the turn of the slot.
-- Assumes nothing.
use Rattle.timetable.specs.File.{connections}
use Rattle.model.specs.Graph.{departure_in}
use Rattle.model.specs.Order.{Ordered}
use Rattle.model.specs.Shown.{shown}
use Rattle.predecessors.proofs.Invariant.{Swept}
use Rattle.predecessors.proofs.sweep.Given as goal

abbrev pub invariant-loop-d : goal.invariant-loop-d
invariant-loop-d l =
    (o : Ordered (departure_in l.search.network.shown.graph.now) (connections l.search.network.shown.timetable.file.now) (connections l.search.network.shown.timetable.file.now) l.order) × Swept (shown l.search.network.shown.timetable.file.now l.search.network.shown.graph.now) l.search.from l.search.time o.place l.d-index l.work

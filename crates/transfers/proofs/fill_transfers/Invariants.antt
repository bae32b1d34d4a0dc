-- The places from i on are passed: `heads` has the first departure of each board, `departed` the k departures, and `part` the entry of each passenger who is ready. Assumes nothing.
use Rattle.std.proofs.Common.{◌≡◌, ℕ, ◌+◌, ◌≤◌, List, length, take}
use Rattle.std.specs.Iterator.Adapters.{rev_source}
use Rattle.std.specs.Slice.Iter.{iter_rest}
use Rattle.model.specs.Shown.{shown}
use Rattle.departures.specs.Events.{EventOrder}
use Rattle.transfers.proofs.Passing.{Swept}
use Rattle.transfers.proofs.fill_transfers.Given as goal

abbrev pub invariant-loop-event : goal.invariant-loop-event
invariant-loop-event l =
    let left = iter_rest (rev_source l.event-iterator) in
    let i = length left in
    record {
      left_is : left ≡ take i l.order;
      departures : l.k + i ≤ l.timetable.connections + l.timetable.connections;
      swept : (g : List ℕ) → (o : EventOrder (shown l.timetable.file.now g) l.order) → Swept (shown l.timetable.file.now g) o.ordered.place i l.k l.heads l.departed l.part;
    }

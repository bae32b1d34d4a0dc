-- The pass over areas that can be read: the turn of a slot of the order, and the end. Assumes nothing.
use Rattle.std.proofs.Common.{◌≡◌, ℕ, ◌+◌, ◌<◌, ◌≤◌, List, length, get_or, take, arith, length-take-le, get_or-take}
use Rattle.timetable.specs.File.{connections}
use Rattle.model.specs.Graph.{departure_in}
use Rattle.model.specs.Order.{Ordered}
use Rattle.model.specs.Predecessors.{predecessors}
use Rattle.model.specs.Shown.{shown, Readable}
use Rattle.visits.specs.Visits.{turned}
use Rattle.predecessors.proofs.Invariant.{Swept, swept_slot, swept_all}

-- the first m slots of the order, as many as there are connections
module _ (f graph order : List ℕ) (r : Readable f graph) (o : Ordered (departure_in graph) (connections f) (connections f) order)
    (m : ℕ) (all : m ≡ connections f) where
  slots : length (take m order) ≡ connections f
  slots = rw (length-take-le m order (omega (arith, o.room))) all

  module _ (a t i : ℕ) where
    -- slot i has its turn
    pub pass_turn : i < length (take m order) → (work after : List ℕ) → Swept (shown f graph) a t o.place i work
        → after ≡ turned (shown f graph) a t work (get_or (take m order) i 0) → Swept (shown f graph) a t o.place (i + 1) after
    pass_turn h work after s e =
        let l : i < m = omega (arith, slots) in
        rw (e, get_or-take m order i 0 l) (swept_slot (shown f graph) a t o.place r.sound o.rises i (get_or order i 0) work (o.slots i (omega arith)) s)

    -- after the last slot the predecessors are there
    pub pass_ends : i ≤ length (take m order) → length (take m order) ≤ i → (work : List ℕ) → Swept (shown f graph) a t o.place i work
        → work ≡ predecessors (shown f graph) a t
    pass_ends h l work s =
        let e : i ≡ connections f = omega (arith, slots) in
        swept_all (shown f graph) a t o.place (connections f) work o.within (rw e at s)

-- The answer lies in out, as that to a line of no byte does. Assumes nothing.
use Rattle.std.proofs.Common.{[], sym, refl, length-take-le}
use Rattle.model.specs.Day.{day_of, lent}
use Rattle.cuts.specs.Cut.{has}
use Rattle.turns.specs.Turns.{state}
use Rattle.console.proofs.work_last.Goals as goal

pub slice_bounds-print-end : goal.slice_bounds-print-end
unfolding has
slice_bounds-print-end g c = (c.work_unended-n.ensures (day_of []) (state (lent [] []) [] []) [] refl).written.within

pub slice_bounds-print-end-2 : goal.slice_bounds-print-end-2
slice_bounds-print-end-2 g c = sym (length-take-le c.work_unended-n.result c.work_unended-n.new.out (slice_bounds-print-end g c))

-- `trails::write_journey` meets its contract. The loop's invariant: what is left to write, with what is written, is the whole journey.
-- Assumes nothing.
use Rattle.std.proofs.Common.{◌≡◌, ◌≤◌, length, drop}
use mathlib.Core.List.{reverse_aux}
use Rattle.model.specs.Predecessors.{follow}
use Rattle.trails.specs.Trail.{Trail}
use Rattle.trails.proofs.write_journey.Given as goal

abbrev pub invariant-loop-i : goal.invariant-loop-i
invariant-loop-i l =
    (l.k ≤ length l.journey)
    × Trail l.predecessors l.c
    × (length (follow l.predecessors l.i l.c) ≡ l.i)
    × (reverse_aux (follow l.predecessors l.i l.c) (drop l.i l.journey) ≡ reverse_aux (follow l.predecessors l.k l.last) (drop l.k l.initial.journey))

-- `trails::journey_length` meets its contract. Assumes nothing.
use Rattle.std.proofs.Common.{◌≡◌, ◌+◌, length}
use Rattle.trails.specs.Trail.{journey_to, Trail}
use Rattle.trails.proofs.journey_length.Given as goal

abbrev pub invariant-loop-c : goal.invariant-loop-c
invariant-loop-c l =
    Trail l.predecessors l.c × (l.k + length (journey_to l.predecessors l.c) ≡ length (journey_to l.predecessors l.last) + 1)

abbrev pub decreases-loop-c : goal.decreases-loop-c
decreases-loop-c l =
    length (journey_to l.predecessors l.c)

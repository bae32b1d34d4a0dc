-- What the rows that are left make of the primary delays so far.
use Rattle.std.proofs.Common.{◌≡◌, length}
use Rattle.std.specs.Slice.Iter.{chunks_exact_rest, chunks_exact_size}
use Rattle.model.specs.Notices.{width}
use Rattle.delays.proofs.Walk.{Walks}
use Rattle.delays.proofs.primary_delays.Given as goal

abbrev pub invariant-loop-row : goal.invariant-loop-row
invariant-loop-row l =
    (chunks_exact_size l.row-iterator ≡ width) × Walks l.rows (chunks_exact_rest l.row-iterator) l.primaries (length l.initial.primaries)

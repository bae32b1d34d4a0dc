-- The other rows are checked one by one.
use Rattle.std.proofs.Common.{◌≡◌, ◌≤◌}
use Rattle.model.specs.Notices.{room, unused_verdict}
use Rattle.model.proofs.Rows.{unused_after}
use Rattle.rows.proofs.Checking.{to_check}
use Rattle.rows.proofs.first_used.Given as goal

abbrev pub invariant-loop-k : goal.invariant-loop-k
invariant-loop-k l =
    (l.k ≤ room) × (to_check unused_after l.counted.notices.now room l.k 0 ≡ unused_verdict l.counted.notices.now)

-- The rows that stand are checked one by one.
use Rattle.std.proofs.Common.{◌≡◌, ◌≤◌}
use Rattle.model.specs.Notices.{count_in, stands_right, standing_verdict}
use Rattle.rows.proofs.Checking.{to_check}
use Rattle.rows.proofs.check_standing.Given as goal

abbrev pub invariant-loop-k : goal.invariant-loop-k
invariant-loop-k l =
    (l.k ≤ count_in l.counted.notices.now) × (to_check (stands_right l.n) l.counted.notices.now (count_in l.counted.notices.now) l.k l.before ≡ standing_verdict l.n l.counted.notices.now)

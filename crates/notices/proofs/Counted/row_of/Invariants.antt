-- The number is looked for row by row.
use Rattle.std.proofs.Common.{◌≡◌, ◌+◌, ◌-◌, ◌*◌}
use Rattle.model.specs.Notices.{width, rows_of}
use Rattle.notices.specs.Numbered.{row_with}
use Rattle.notices.proofs.Finding.{to_find}
use Rattle.notices.proofs.Counted.row_of.Given as goal

abbrev pub invariant-loop-k : goal.invariant-loop-k
invariant-loop-k l =
    l.k + to_find l.self.notices.now (1 + width * l.k) (l.count - l.k) l.number ≡ row_with l.number (rows_of l.self.notices.now)

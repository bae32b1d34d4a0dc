-- `change_lists::read_changes` meets its contract: each line is read, its number stands behind those before it, and each turn leaves
-- less of the text. Assumes nothing.
use Rattle.std.proofs.Common.{◌-◌, length}
use Rattle.change_lists.proofs.Reading.{Reading}
use Rattle.decimals.specs.Decimal.{decimal}
use Rattle.change_lists.proofs.read_changes.Given as goal

abbrev pub invariant-loop-n : goal.invariant-loop-n
invariant-loop-n l =
    Reading l.text l.initial.change l.change l.line l.at

abbrev pub decreases-loop-n : goal.decreases-loop-n
decreases-loop-n l =
    length l.text - l.at

abbrev pub ghost-column : goal.ghost-column
ghost-column a = decimal

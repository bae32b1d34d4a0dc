-- `cuts::end_of` meets its contract: the piece ends where what is left of it at i ends. Assumes nothing.
use Rattle.std.proofs.Common.{◌≡◌, ◌+◌, ◌-◌, ◌≤◌, length, drop}
use Rattle.cuts.specs.Cut.{before}
use Rattle.cuts.proofs.end_of.Given as goal

abbrev pub invariant-loop-i : goal.invariant-loop-i
invariant-loop-i l =
    (l.i ≤ length l.text) × (l.at + length (before l.byte (drop l.at l.text)) ≡ l.i + length (before l.byte (drop l.i l.text)))

abbrev pub decreases-loop-i : goal.decreases-loop-i
decreases-loop-i l =
    length l.text - l.i

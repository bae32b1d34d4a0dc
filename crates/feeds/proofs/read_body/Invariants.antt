-- `feeds::read_body` meets its contract: before each line, what is left to do gives what the whole gives. Assumes nothing.
use Rattle.std.proofs.Common.{◌-◌, length}
use Rattle.feeds.proofs.Turns.{Reached}
use Rattle.feeds.proofs.read_body.Given as goal

abbrev pub invariant-loop-at : goal.invariant-loop-at
invariant-loop-at l =
    Reached l.text l.initial.area l.area l.progress l.at

abbrev pub decreases-loop-at : goal.decreases-loop-at
decreases-loop-at l =
    length l.text - l.at

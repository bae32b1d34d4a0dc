-- `arrivals::put_journey` meets its contract: the first connections are written. Assumes nothing.
use Rattle.std.proofs.Common.{take}
use Rattle.arrivals.specs.Arrivals.{journey_text}
use Rattle.decimals.specs.Written.{Written}
use Rattle.arrivals.proofs.put_journey.Given as goal

abbrev pub invariant-loop-connection : goal.invariant-loop-connection
invariant-loop-connection l =
    Written l.next l.out l.initial.out l.at (journey_text (take l.connection-index l.journey))

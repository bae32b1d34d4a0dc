-- `arrivals::put_journey` meets its contract: the first connections are written. Assumes nothing.
use Rattle.std.proofs.Common.{arith}
use Rattle.arrivals.proofs.Lengths.{journey_turn}
use Rattle.decimals.proofs.Written.{then_written}
use Rattle.arrivals.proofs.put_journey.Goals as goal

pub loop-connection-preserved : goal.loop-connection-preserved
loop-connection-preserved c =
    rw (← journey_turn c.args.journey.now c.loop-connection.connection-index (omega arith))
    (then_written c.loop-connection.invariant c.put_labelled-next.ensures)

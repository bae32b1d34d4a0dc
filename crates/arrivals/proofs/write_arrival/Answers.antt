-- `arrivals::write_arrival` meets its contract: the parts of the line, one after the other. Assumes nothing.
use Rattle.std.proofs.Common.{arith}
use Rattle.arrivals.specs.Arrivals.{arrives_line}
use Rattle.decimals.proofs.Written.{then_written}
use Rattle.arrivals.proofs.Lengths.{arrives_room}
use Rattle.labels.proofs.Texts.{line_written}
use Rattle.arrivals.proofs.write_arrival.Goals as goal

pub returns : goal.returns
unfolding arrives_line
returns c =
    let r = arrives_room c.args.time c.args.journey.now c.ranges.time c.type_inv.journey in
    let w = then_written (then_written c.put_labelled-a.ensures c.put_text-b.ensures) c.put_journey-c.ensures in
    line_written (then_written w c.put_text.ensures) (omega (arith, r))

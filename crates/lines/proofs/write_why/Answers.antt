-- `lines::write_why` meets its contract: the connection, then the line of the delay and the notice. Assumes nothing.
use Rattle.std.proofs.Common.{arith}
use Rattle.lines.specs.Lines.{why_line}
use Rattle.decimals.proofs.Written.{then_written}
use Rattle.labels.proofs.Texts.{line_written}
use Rattle.lines.proofs.Lengths.{parts}
use Rattle.lines.proofs.write_why.Goals as goal

pub returns : goal.returns
unfolding why_line
returns c =
    line_written (then_written c.put_labelled-next.ensures c.put_pair.ensures) (grind (arith, parts))

-- `labels::write_number` meets its contract: the label and the number, then the newline. Assumes nothing.
use Rattle.decimals.proofs.Written.{then_written}
use Rattle.labels.proofs.Texts.{line_written}
use Rattle.labels.proofs.write_number.Goals as goal

pub returns : goal.returns
returns c = line_written (then_written c.put_labelled-next.ensures c.put_text.ensures) c.requires

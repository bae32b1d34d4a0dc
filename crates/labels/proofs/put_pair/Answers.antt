-- `labels::put_pair` meets its contract: each label and its number, then the newline. Assumes nothing.
use Rattle.decimals.proofs.Written.{then_written}
use Rattle.labels.proofs.put_pair.Goals as goal

pub returns : goal.returns
returns c = then_written (then_written c.put_labelled-next.ensures c.put_labelled-last.ensures) c.put_text.ensures

-- `labels::put_labelled` meets its contract: the label, then the number. Assumes nothing.
use Rattle.decimals.proofs.Written.{then_written}
use Rattle.labels.proofs.put_labelled.Goals as goal

pub returns : goal.returns
returns c = then_written c.put_text-next.ensures c.put_decimal.ensures

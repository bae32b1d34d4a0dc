-- `row_texts::put_number` meets its contract: the number, then the byte. Assumes nothing.
use Rattle.decimals.proofs.Written.{then_written, byte_written}
use Rattle.row_texts.proofs.put_number.Goals as goal

pub returns : goal.returns
returns c =
    then_written c.put_digits-next.ensures (byte_written c.put_digits-next.new.out c.put_digits-next.result c.args.byte)

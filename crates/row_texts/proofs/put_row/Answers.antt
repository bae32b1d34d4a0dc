-- `row_texts::put_row` meets its contract: the five columns, each after the one before. Assumes nothing.
use Rattle.decimals.proofs.Written.{then_written}
use Rattle.gtfs.specs.StopTimes.{row_text}
use Rattle.row_texts.proofs.put_row.Goals as goal

pub returns : goal.returns
unfolding row_text
returns c =
    then_written
    (then_written
    (then_written (then_written c.put_number-arrival.ensures c.put_time-departure.ensures) c.put_time-stop.ensures)
    c.put_number-sequence.ensures)
    c.put_number.ensures

-- `stop_times::next_row` meets its contract: its columns are numbers and times. Assumes nothing.
use Rattle.decimals.specs.Decimal.{decimal}
use Rattle.gtfs.specs.Clock.{time_of}
use Rattle.stop_times.proofs.next_row.Given as goal

abbrev pub ghost-column : goal.ghost-column
ghost-column a = decimal

abbrev pub ghost-column-2 : goal.ghost-column-2
ghost-column-2 a = time_of

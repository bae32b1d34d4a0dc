-- What the writing of columns goes by. Assumes nothing.
use Rattle.decimals.proofs.Written.{length_one, length_more, digit_written, digits_written, then_written, byte_written}
use Rattle.gtfs.proofs.RowTexts.{two_digits_lem, length_number_cell, length_time_cell, length_row}

-- a number
pub ruleset numbers = (length_one, length_more, digit_written, digits_written, two_digits_lem)

-- a time
pub ruleset times = (then_written, byte_written, length_time_cell)

-- a row
pub ruleset rows = (length_number_cell, length_time_cell, length_row)

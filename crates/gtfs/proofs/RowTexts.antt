-- A number of two digits written, and how long a row written is. Assumes nothing.
use Rattle.std.proofs.Common.{◌≡◌, ℕ, ◌+◌, ◌/◌, ◌<◌, ◌≤◌, length, arith, length-append}
use Rattle.decimals.specs.Decimal.{decimal_of}
use Rattle.decimals.proofs.Digits.{decimal_one, decimal_more}
use Rattle.gtfs.specs.Clock.{two_digits}
use Rattle.gtfs.specs.declared.StopTime.{StopTime}
use Rattle.gtfs.specs.StopTimes.{number_cell, time_cell, row_text}
use Rattle.gtfs.proofs.Clock.{length_time}

-- a number of two digits has no leading zero
pub two_digits_lem : (n : ℕ) → 10 ≤ n → n < 100 → decimal_of n ≡ two_digits n
two_digits_lem n l h = rw (decimal_more n l, decimal_one (n / 10) (omega arith))

-- a column is its number or time, and a byte
pub length_number_cell : (n byte : ℕ) → length (number_cell n byte) ≡ length (decimal_of n) + 1
length_number_cell n byte = rw length-append

pub length_time_cell : (t byte : ℕ) → length (time_cell t byte) ≡ 9
length_time_cell t byte = rw (length-append, length_time)

-- a row's length by its three numbers
pub length_row : (row : StopTime)
    → length (row_text row) ≡ length (decimal_of row.trip) + length (decimal_of row.stop) + length (decimal_of row.sequence) + 21
unfolding row_text
length_row row = simp (length-append, length_time) (omega arith)

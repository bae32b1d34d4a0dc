-- How long the line of one number is. Assumes nothing.
use Rattle.std.proofs.Common.{ℕ, ◌^◌, ◌<◌, ◌≤◌, List, length, arith, length-append}
use Rattle.labels.specs.Labels.{number_line}
use Rattle.labels.specs.Room.{line_room}
use Rattle.decimals.proofs.Digits.{digits_ten}

-- the line of one number has room
pub number_room : (label : List ℕ) (n : ℕ) → n < 2 ^ 32 → length label ≤ 50 → length (number_line label n) ≤ line_room
number_room label n h few = simp length-append (omega (arith, digits_ten n h))

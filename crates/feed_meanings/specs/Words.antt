-- What a word of a row is as a number and as a time, and what a line is as a row. A word is the list of its bytes. Assumes nothing.
use Rattle.std.specs.Prelude.{List, [], ◌∷◌, ◌++◌, ◌≡◌, ℕ, ◌+◌, ◌*◌, ◌<◌, ◌≤◌, length, get_or}
use Rattle.decimals.specs.Bytes.{digit_zero, digit_nine}
use Rattle.decimals.specs.Decimal.{value_of}
use Rattle.gtfs.specs.Clock.{colon, digit_five}
use Rattle.gtfs.specs.StopTimes.{comma}
use Rattle.gtfs.specs.declared.StopTime.{StopTime}

-- a byte that is a digit
pub record IsDigit (b : ℕ) : Type 0 where
  pub from_zero : digit_zero ≤ b
  pub to_nine : b ≤ digit_nine

-- every byte is one
abbrev pub Digits : List ℕ → Type 0
Digits w = (i : ℕ) → i < length w → IsDigit (get_or w i 0)

-- a word is the decimal of n: one to five digits of this value, which is at most 65,535; leading zeros are allowed
pub record IsDecimal (w : List ℕ) (n : ℕ) : Type 0 where
  pub some : 1 ≤ length w
  pub few : length w ≤ 5
  pub digits : Digits w
  pub value : n ≡ value_of w
  pub fits : n ≤ 65535

-- a word is the time of minute t: one or two digits of hours, a colon, two digits of minutes from 00 to 59, a colon, two zeros
pub record IsTime (w : List ℕ) (t : ℕ) : Type 0 where
  pub hours : List ℕ
  pub ten : ℕ
  pub one : ℕ
  pub word : w ≡ hours ++ (colon ∷ ten ∷ one ∷ colon ∷ digit_zero ∷ digit_zero ∷ [])
  pub some_hours : 1 ≤ length hours
  pub few_hours : length hours ≤ 2
  pub hour_digits : Digits hours
  pub ten_digit : IsDigit ten
  pub ten_few : ten ≤ digit_five
  pub one_digit : IsDigit one
  pub value : t ≡ 60 * value_of hours + value_of (ten ∷ one ∷ [])

-- a line is a row: five words with a comma between each two, the second and third times, the others decimals
pub record IsRow (line : List ℕ) (row : StopTime) : Type 0 where
  pub trip_word : List ℕ
  pub arrival_word : List ℕ
  pub departure_word : List ℕ
  pub stop_word : List ℕ
  pub sequence_word : List ℕ
  pub columns : line ≡
      trip_word ++ (comma ∷ (arrival_word ++ (comma ∷ (departure_word ++ (comma ∷ (stop_word ++ (comma ∷ sequence_word)))))))
  pub trip : IsDecimal trip_word row.trip
  pub arrival : IsTime arrival_word row.arrival
  pub departure : IsTime departure_word row.departure
  pub stop : IsDecimal stop_word row.stop
  pub sequence : IsDecimal sequence_word row.sequence

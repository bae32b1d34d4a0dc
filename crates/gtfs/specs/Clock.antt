-- Times of day in a text: H:MM:00 or HH:MM:00, hours past 24 among them. A time is in minutes. Assumes nothing.
use Rattle.std.specs.Prelude.{Bool, cond, Option, Some, None, ◌&&◌, ◌||◌, List, [], ◌∷◌, ◌++◌, ℕ, ◌+◌, ◌*◌, ◌-◌, ◌/◌, ◌%◌, leb, eqb, length, get_or, take, drop}
use Rattle.decimals.specs.Bytes.{digit_zero}
use Rattle.decimals.specs.Decimal.{is_digit, all_digits, value_of}

-- what stands between hours, minutes and seconds
abbrev pub colon : ℕ
colon = 58

-- the minutes of an hour
abbrev pub hour_minutes : ℕ
hour_minutes = 60

-- the first digit of the last minute of an hour
abbrev pub digit_five : ℕ
digit_five = 53

-- how many bytes :MM:00 has
abbrev pub clock_end : ℕ
clock_end = 6

-- whether six bytes are a colon, a minute of two digits from 00 to 59, a colon and two zeros
unfoldable pub is_clock_end : List ℕ → Bool
is_clock_end w =
    eqb (get_or w 0 0) colon && is_digit (get_or w 1 0) && leb (get_or w 1 0) digit_five && is_digit (get_or w 2 0) && eqb (get_or w 3 0) colon
    && eqb (get_or w 4 0) digit_zero && eqb (get_or w 5 0) digit_zero

-- the minute of such bytes
abbrev pub minute_of : List ℕ → ℕ
minute_of w = value_of (take 2 (drop 1 w))

-- a word as a time: one or two digits of hours, then six bytes of minutes and seconds
unfoldable pub time_of : List ℕ → Option ℕ
time_of w =
    let hours = take (length w - clock_end) w in
    let end = drop (length w - clock_end) w in
    cond ((eqb (length w) (1 + clock_end) || eqb (length w) (2 + clock_end)) && all_digits hours && is_clock_end end)
    (Some (hour_minutes * value_of hours + minute_of end))
    None

-- a number below 100 in two digits
abbrev pub two_digits : ℕ → List ℕ
two_digits n = (digit_zero + n / 10) ∷ (digit_zero + n % 10) ∷ []

-- a time written: HH:MM:00
unfoldable pub time_text : ℕ → List ℕ
time_text t = two_digits (t / hour_minutes) ++ colon ∷ two_digits (t % hour_minutes) ++ colon ∷ digit_zero ∷ digit_zero ∷ []

-- Numbers in decimal: how a word is read as one, and how one is written. Texts are lists of bytes. Assumes nothing.
use Rattle.std.specs.Prelude.{Bool, true, cond, Option, Some, None, ◌&&◌, List, [], ◌∷◌, ◌++◌, ℕ, zero, suc, ◌+◌, ◌*◌, ◌-◌, ◌/◌, ◌%◌, ltb, leb, length}
use Rattle.decimals.specs.Bytes.{digit_zero, digit_nine}

-- how many digits a word may have
abbrev pub max_digits : ℕ
max_digits = 5

-- the largest number that a word may be
abbrev pub max_number : ℕ
max_number = 65535

-- whether a byte is a digit
abbrev pub is_digit : ℕ → Bool
is_digit b = leb digit_zero b && leb b digit_nine

-- whether every byte is a digit
unfoldable pub all_digits : List ℕ → Bool
all_digits [] = true
all_digits (b ∷ bs) = is_digit b && all_digits bs

-- the value of digits that come after digits of value v
unfoldable pub value_after : ℕ → List ℕ → ℕ
value_after v [] = v
value_after v (b ∷ bs) = value_after (10 * v + (b - digit_zero)) bs

-- the value of digits
abbrev pub value_of : List ℕ → ℕ
value_of = value_after 0

-- a word as a number: 1 to 5 digits, of value at most 65535; leading zeros are allowed
unfoldable pub decimal : List ℕ → Option ℕ
decimal w =
    cond (leb 1 (length w) && leb (length w) max_digits && all_digits w && leb (value_of w) max_number) (Some (value_of w)) None

-- the last digits of n, at most as many as the bound, without leading zeros
unfoldable pub last_digits : ℕ → ℕ → List ℕ
last_digits zero n = []
last_digits (suc bound) n =
    cond (ltb n 10) ((digit_zero + n) ∷ []) (last_digits bound (n / 10) ++ ((digit_zero + n % 10) ∷ []))

-- a number in decimal without leading zeros; it has no more than n + 1 digits
unfoldable pub decimal_of : ℕ → List ℕ
decimal_of n = last_digits (suc n) n

-- Laws of numbers in decimal: how many digits, which ones, no leading zero, and that a number written is read again. Assumes nothing.
use Rattle.std.proofs.Common.{◌≡◌, ℕ, zero, suc, ◌+◌, ◌-◌, ◌*◌, ◌/◌, ◌%◌, ◌^◌, ◌<◌, ◌≤◌, true, List, [], ◌∷◌, ◌++◌, length, get_or, Some, refl, ap, ⊎_elim, pow-suc, arith, length-append, le-ltb, lt-ltb, le-leb}
use lib.ListN.{get_or-append}
use Rattle.decimals.specs.Bytes.{digit_zero, digit_nine}
use Rattle.decimals.specs.Decimal.{max_digits, max_number, is_digit, all_digits, value_after, value_of, decimal, last_digits, decimal_of}
use Rattle.timetable.proofs.Tests.{by_lt, and_left, and_right, and_both}

-- a bound that is large enough makes no difference
bound_same : (j k n : ℕ) → n < j → n < k → last_digits j n ≡ last_digits k n
unfolding last_digits
bound_same zero k n h g = absurd (omega arith)
bound_same (suc j) zero n h g = absurd (omega arith)
bound_same (suc j) (suc k) n h g =
    ⊎_elim
    (λ l. rw (lt-ltb n 10 l))
    (λ (l : 10 ≤ n). rw (le-ltb n 10 l, bound_same j k (n / 10) (omega arith) (omega arith)))
    (by_lt n 10)

-- a number of one digit
pub decimal_one : (n : ℕ) → n < 10 → decimal_of n ≡ (digit_zero + n) ∷ []
unfolding decimal_of last_digits
decimal_one n h = rw (lt-ltb n 10 h)

-- a number of more digits: those of its tenth, and its last
pub decimal_more : (n : ℕ) → 10 ≤ n → decimal_of n ≡ decimal_of (n / 10) ++ ((digit_zero + n % 10) ∷ [])
unfolding decimal_of last_digits
decimal_more n h =
    rw (le-ltb n 10 h)
    (ap (λ (l : List ℕ). l ++ ((digit_zero + n % 10) ∷ [])) (bound_same n (suc (n / 10)) (n / 10) (omega arith) (omega arith)))

-- what holds of one digit, and of a number with its tenth, holds of every number
by_digits : (P : ℕ → Type 0) → ((n : ℕ) → n < 10 → P n) → ((n : ℕ) → 10 ≤ n → P (n / 10) → P n) → (k n : ℕ) → n < k → P n
by_digits P one more zero n h = absurd (omega arith)
by_digits P one more (suc k) n h =
    ⊎_elim
    (λ l. one n l)
    (λ (l : 10 ≤ n). more n l (by_digits P one more k (n / 10) (omega arith)))
    (by_lt n 10)

-- a digit's byte is a digit
digit_is : (n : ℕ) → n < 10 → is_digit (digit_zero + n) ≡ true
digit_is n h = rw (le-leb digit_zero (digit_zero + n) (omega arith), le-leb (digit_zero + n) digit_nine (omega arith))

all_append : (s t : List ℕ) → all_digits s ≡ true → all_digits t ≡ true → all_digits (s ++ t) ≡ true
unfolding all_digits
all_append [] t h g = g
all_append (b ∷ s) t h g =
    and_both (is_digit b) (all_digits (s ++ t))
    (and_left (is_digit b) (all_digits s) h)
    (all_append s t (and_right (is_digit b) (all_digits s) h) g)

-- a number is written in digits
pub digits_only : (n : ℕ) → all_digits (decimal_of n) ≡ true
unfolding all_digits
digits_only n =
    by_digits (λ (m : ℕ). all_digits (decimal_of m) ≡ true)
    (λ (m : ℕ) (l : m < 10). rw (decimal_one m l, digit_is m l))
    (λ (m : ℕ) (l : 10 ≤ m) (e : all_digits (decimal_of (m / 10)) ≡ true).
    rw (decimal_more m l) (all_append (decimal_of (m / 10)) _ e (rw (digit_is (m % 10) (omega arith)))))
    (suc n)
    n
    (omega arith)

pub value_append : (v : ℕ) (s : List ℕ) (d : ℕ) → value_after v (s ++ (d ∷ [])) ≡ 10 * value_after v s + (d - digit_zero)
unfolding value_after
value_append v [] d = refl
value_append v (b ∷ s) d = value_append (10 * v + (b - digit_zero)) s d

-- the value of a number's digits is the number
pub value_is : (n : ℕ) → value_of (decimal_of n) ≡ n
unfolding value_after
value_is n =
    by_digits (λ (m : ℕ). value_of (decimal_of m) ≡ m)
    (λ (m : ℕ) (l : m < 10). rw (decimal_one m l) (omega arith))
    (λ (m : ℕ) (l : 10 ≤ m) (e : value_of (decimal_of (m / 10)) ≡ m / 10). rw (decimal_more m l, value_append, e) (omega arith))
    (suc n)
    n
    (omega arith)

-- a number has a digit
pub digits_some : (n : ℕ) → 1 ≤ length (decimal_of n)
digits_some n =
    ⊎_elim
    (λ l. rw (decimal_one n l) (omega arith))
    (λ (l : 10 ≤ n). rw (decimal_more n l, length-append) (omega arith))
    (by_lt n 10)

-- a number but 0 has no leading zero
pub no_leading_zero : (n : ℕ) → 0 < n → get_or (decimal_of n) 0 0 ≡ digit_zero → ⊥
no_leading_zero n =
    by_digits (λ (m : ℕ). 0 < m → get_or (decimal_of m) 0 0 ≡ digit_zero → ⊥)
    (λ (m : ℕ) (l : m < 10) (p : 0 < m) (z : get_or (decimal_of m) 0 0 ≡ digit_zero).
    let e : digit_zero + m ≡ digit_zero = rw (decimal_one m l) at z in
    omega arith)
    (λ (m : ℕ) (l : 10 ≤ m) (first : 0 < m / 10 → get_or (decimal_of (m / 10)) 0 0 ≡ digit_zero → ⊥) (p : 0 < m)
    (z : get_or (decimal_of m) 0 0 ≡ digit_zero).
    first (omega arith) (rw (decimal_more m l, get_or-append (decimal_of (m / 10)) _ 0 0 (digits_some (m / 10))) at z))
    (suc n)
    n
    (omega arith)

-- a number below a power of ten has no more digits than the power
pub digits_few : (k n : ℕ) → n < 10 ^ suc k → length (decimal_of n) ≤ suc k
digits_few zero n h = rw (decimal_one n h) (omega arith)
digits_few (suc k) n h =
    let p : 10 ^ suc (suc k) ≡ 10 ^ suc k * 10 = pow-suc 10 (suc k) in
    ⊎_elim
    (λ l. rw (decimal_one n l) (omega arith))
    (λ (l : 10 ≤ n). rw (decimal_more n l, length-append) (omega (arith, digits_few k (n / 10) (omega arith))))
    (by_lt n 10)

-- a number of 16 bits has at most five digits
pub digits_five : (n : ℕ) → n ≤ max_number → length (decimal_of n) ≤ max_digits
digits_five n h = digits_few 4 n (omega arith)

-- a number of 32 bits has at most ten digits
pub digits_ten : (n : ℕ) → n < 2 ^ 32 → length (decimal_of n) ≤ 10
digits_ten n h = digits_few 9 n (omega arith)

-- a number of 16 bits, written and read, is itself
pub decimal_read : (n : ℕ) → n ≤ max_number → decimal (decimal_of n) ≡ Some n
unfolding decimal
decimal_read n h =
    let some = le-leb 1 (length (decimal_of n)) (digits_some n) in
    let few = le-leb (length (decimal_of n)) max_digits (digits_five n h) in
    rw (some, few, digits_only n, value_is n, le-leb n max_number h)

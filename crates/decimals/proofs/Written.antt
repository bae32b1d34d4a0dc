-- Texts written one after the other, and a number written digit by digit. Assumes nothing.
use Rattle.std.proofs.Common.{◌≡◌, ℕ, suc, ◌+◌, ◌/◌, ◌%◌, ◌<◌, ◌≤◌, List, [], ◌∷◌, ◌++◌, length, set, refl, ◌∙◌, add-zero, arith, length-append}
use lib.Seq.{sets}
use Rattle.decimals.specs.Bytes.{digit_zero}
use Rattle.decimals.specs.Decimal.{decimal_of}
use Rattle.decimals.specs.Written.{Written}
use Rattle.decimals.proofs.Digits.{decimal_one, decimal_more}

-- a text and the next one after it are both together
pub sets_append : (d : List ℕ) (at : ℕ) (s t : List ℕ) → sets (sets d at s) (at + length s) t ≡ sets d at (s ++ t)
sets_append d at [] t = rw (add-zero at)
sets_append d at (a ∷ s) t =
    let e : at + suc (length s) ≡ suc at + length s = omega arith in
    rw e (sets_append (set d at a) (suc at) s t)

-- a text written after another is both written
pub then_written : {d e f s t : List ℕ} {at a b : ℕ} → Written a e d at s → Written b f e a t → Written b f d at (s ++ t)
then_written {d = d} {s = s} {t = t} {at = at} h g = record {
  next = omega (arith, h.next, g.next, length-append s t);
  stands = g.stands ∙ rw (h.stands, h.next) (sets_append d at s t);
}

-- a byte written
pub byte_written : (d : List ℕ) (at b : ℕ) → Written (at + 1) (set d at b) d at (b ∷ [])
byte_written d at b = record { next = omega arith; stands = refl }

-- a number of one digit has length 1
pub length_one : (n : ℕ) → n < 10 → length (decimal_of n) ≡ 1
length_one n h = rw (decimal_one n h)

-- a number has one digit more than its tenth
pub length_more : (n : ℕ) → 10 ≤ n → length (decimal_of n) ≡ length (decimal_of (n / 10)) + 1
length_more n h = rw (decimal_more n h, length-append)

-- a number of one digit written
pub digit_written : (d : List ℕ) (at n : ℕ) → n < 10 → Written (at + 1) (set d at (digit_zero + n % 10)) d at (decimal_of n)
digit_written d at n h =
    let e : n % 10 ≡ n = omega arith in
    rw (decimal_one n h, e) (byte_written d at (digit_zero + n))

-- a number of more digits written: its tenth, then its last digit
pub digits_written : {d e : List ℕ} {at last : ℕ} (n : ℕ) → 10 ≤ n → Written last e d at (decimal_of (n / 10))
    → Written (last + 1) (set e last (digit_zero + n % 10)) d at (decimal_of n)
digits_written {e = e} {last = last} n h w = rw (decimal_more n h) (then_written w (byte_written e last (digit_zero + n % 10)))

-- what the writing of a number goes by
pub ruleset writing = (length_one, length_more, digit_written, digits_written)

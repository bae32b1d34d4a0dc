-- How a word is read as a number, digit by digit. Assumes nothing.
use Rattle.std.proofs.Common.{◌≡◌, ℕ, ◌+◌, ◌-◌, ◌*◌, ◌^◌, ◌<◌, ◌≤◌, true, false, cond, ◌&&◌, leb, List, length, get_or, drop, Some, None, Option, pow-suc, add-one, arith, drop_of_length-le, drop-cons, le-leb}
use borrow.Author.Tests.{lt-leb}
use Rattle.decimals.specs.Bytes.{digit_zero}
use Rattle.decimals.specs.Decimal.{max_digits, max_number, is_digit, all_digits, value_after, decimal}

-- the number of a word of which the bytes are left, when those before them had value v
unfoldable pub decimal_after : ℕ → List ℕ → Option ℕ
decimal_after v bs = cond (all_digits bs && leb (value_after v bs) max_number) (Some (value_after v bs)) None

-- an empty word is no number
pub decimal_none : (w : List ℕ) → length w < 1 → decimal w ≡ None
unfolding decimal
decimal_none w h = rw (lt-leb 1 (length w) h)

-- a word of six bytes is no number
pub decimal_long : (w : List ℕ) → max_digits < length w → decimal w ≡ None
unfolding decimal
decimal_long w h = rw (lt-leb (length w) max_digits h, le-leb 1 (length w) (omega arith))

-- before the first byte
pub decimal_starts : (w : List ℕ) → 1 ≤ length w → length w ≤ max_digits → decimal w ≡ decimal_after 0 (drop 0 w)
unfolding decimal decimal_after
decimal_starts w h k = rw (le-leb 1 (length w) h, le-leb (length w) max_digits k)

module _ (w : List ℕ) (i v : ℕ) (h : i < length w) where
  -- a byte that is no digit
  pub byte_other : is_digit (get_or w i 0) ≡ false → decimal_after v (drop i w) ≡ None
  unfolding decimal_after all_digits
  byte_other e = rw (drop-cons w i 0 h, e)

  -- a digit
  pub byte_digit : is_digit (get_or w i 0) ≡ true
      → decimal_after v (drop i w) ≡ decimal_after (10 * v + (get_or w i 0 - digit_zero)) (drop (i + 1) w)
  unfolding decimal_after all_digits value_after
  byte_digit e = rw (drop-cons w i 0 h, e, add-one i)

-- no byte left
pub decimal_ends : (w : List ℕ) (i v : ℕ) → length w ≤ i → decimal_after v (drop i w) ≡ cond (leb v max_number) (Some v) None
unfolding decimal_after all_digits value_after
decimal_ends w i v h = rw (drop_of_length-le w {i = i} h)

-- a digit more, ten times as many numbers
pub tenfold : (i : ℕ) → 10 ^ (i + 1) ≡ 10 ^ i * 10
tenfold i = rw (add-one i, pow-suc)

-- what a loop over a word's bytes goes by
pub ruleset reading = (decimal_none, decimal_long, decimal_starts, byte_other, byte_digit, decimal_ends, tenfold)

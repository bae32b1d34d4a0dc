-- Numbers looked at one by one, and unused rows by their numbers. Assumes nothing.
use Rattle.std.proofs.Common.{◌≡◌, ℕ, suc, ◌+◌, ◌-◌, ◌*◌, ◌<◌, ◌≤◌, Bool, true, false, ◌&&◌, List, [], length, get_or, take, drop, replicate, sym, refl, ap, ◌∙◌, append-nil, arith, length-drop, length-take}
use mathlib.Core.Bool.{and-false}
use lib.ListN.{length-replicate, get_or-replicate}
use borrow.Rule.Slice.PartMut.{mid_of}
use Rattle.refusals.specs.Answers.{Passed}
use Rattle.model.specs.Notices.{width, room, notices_length, unused_row, numbers_in, row_at, cut, count_in, unused_right, unused_verdict}
use Rattle.model.specs.Drawn.{same}
use Rattle.model.proofs.ByCases.{same_test}
use Rattle.model.proofs.Lists.{same_refl, same_eq, same_on, same_not, same_end}
use Rattle.model.proofs.Areas.{row_of, row_at_lem, unused_numbers, unused_right_lem, unused_is, take_front, zero_row, cut_take, cut_zeros}
use Rattle.model.proofs.Rows.{unused_pass}
use Rattle.rows.specs.Rows.{all_zero}

-- the answer p at place i and what is left give q; p' is the answer after it
module _ {q : Bool} (p p' : Bool) (xs : List ℕ) (i : ℕ) (h : i < length xs)
    (e : p && same (drop i xs) (drop i (replicate (length xs) 0)) ≡ q) where
  zeros : length xs ≡ length {A = ℕ} (replicate (length xs) 0)
  zeros = sym (length-replicate {A = ℕ} (length xs) 0)

  at_place : ◌≡◌ {A = ℕ} (get_or (replicate (length xs) 0) i 0) 0
  at_place = get_or-replicate {A = ℕ} (length xs) i 0 0 h

  pub zero_on : get_or xs i 0 ≡ 0 → p' ≡ p → p' && same (drop (i + 1) xs) (drop (i + 1) (replicate (length xs) 0)) ≡ q
  zero_on g z = rw (z, same_on xs (replicate (length xs) 0) i h zeros refl (g ∙ sym at_place)) e

  pub zero_not : (get_or xs i 0 ≡ 0 → ⊥) → p' ≡ false → p' && same (drop (i + 1) xs) (drop (i + 1) (replicate (length xs) 0)) ≡ q
  zero_not g z =
      rw z (sym (and-false p) ∙ ap (λ (b : Bool). p && b) (same_not xs (replicate (length xs) 0) i h zeros refl (λ d. g (d ∙ at_place))) ∙ e)

pub zero_end : (xs : List ℕ) (i : ℕ) → i ≡ length xs → same (drop i xs) (drop i (replicate (length xs) 0)) ≡ true
zero_end xs i e = same_end xs (replicate (length xs) 0) i e (sym (length-replicate {A = ℕ} (length xs) 0))

-- a row's test is that of its numbers
pub row_zero : (area : List ℕ) (at : ℕ) → at + width ≤ length area → all_zero (mid_of at (at + width - at) area) ≡ unused_right (row_of area at)
row_zero area at h =
    let w : at + width - at ≡ width = omega arith in
    let row = row_at (drop at area) in
    let numbers : take width (drop at area) ≡ numbers_in row = take_front (drop at area) (rw length-drop (omega arith)) in
    rw (w, numbers, ← (row_at_lem area at))
    (same_test (same (numbers_in row) (replicate width 0)) (unused_right row)
    (λ e. ap unused_right (zero_row row (same_eq (numbers_in row) (replicate width 0) e)) ∙ unused_right_lem)
    (λ e.
    ap (λ (y : List ℕ). same y (replicate width 0)) (ap numbers_in (unused_is row e) ∙ unused_numbers)
    ∙ same_refl (replicate width 0)))

-- rows of zeros are unused
zero_rows : (m : ℕ) (xs : List ℕ) → width * m ≤ length xs → all_zero (take (width * m) xs) ≡ true → cut m xs ≡ replicate m unused_row
zero_rows m xs h z =
    let n : length (take (width * m) xs) ≡ width * m = rw length-take (omega arith) in
    let zeros : take (width * m) xs ≡ replicate (width * m) 0 = rw n at (same_eq (take (width * m) xs) _ z) in
    sym (cut_take m xs h) ∙ rw (zeros, ← (append-nil {A = ℕ} (replicate (width * m) 0))) (cut_zeros m [])

pub zeros_unused : (area : List ℕ) → notices_length ≤ length area → count_in area ≤ room
    → all_zero (mid_of (1 + width * count_in area) (notices_length - (1 + width * count_in area)) area) ≡ true → unused_verdict area ≡ Passed
zeros_unused area long fits h =
    let m = room - count_in area in
    let e : notices_length - (1 + width * count_in area) ≡ width * m = omega arith in
    rw (zero_rows m (drop (1 + width * count_in area) area) (rw length-drop (omega arith)) (rw e at h))
    (unused_pass (suc (count_in area)) 0 m)

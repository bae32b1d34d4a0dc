-- The check of rows one by one: what is left to check gives what the whole gave. Assumes nothing.
use Rattle.std.proofs.Common.{◌≡◌, ℕ, suc, ◌+◌, ◌-◌, ◌*◌, ◌<◌, Bool, true, false, not, List, drop, sym, ◌∙◌, add-one, arith}
use native.Mathlib.Nat.{sub-zero}
use Rattle.refusals.specs.Answers.{refuse_if, or_else, Verdict, Passed, Refused}
use Rattle.model.specs.Notices.{width, room, count_in, rows_of, cut, stands_right, unused_right, rows_from, standing_verdict, unused_verdict}
use Rattle.model.specs.declared.Notice.{Notice}
use Rattle.refusals.specs.RefusalNumber as refusal
use Rattle.model.proofs.Areas.{row_of, cut_more}
use Rattle.model.proofs.Rows.{unused_after, before_any}

-- the check of the rows from row k up to the end, counted from 0
abbrev pub to_check : (ℕ → Notice → Bool) → List ℕ → ℕ → ℕ → ℕ → Verdict
to_check right area end k before = rows_from right (k + 1) before (cut (end - k) (drop (1 + width * k) area))

module _ (right : ℕ → Notice → Bool) (area : List ℕ) (end k before : ℕ) where
  abbrev row : Notice
  row = row_of area (1 + width * k)

  check_row : k < end
      → to_check right area end k before
      ≡ or_else (refuse_if (not (right before row)) refusal.wrong_row (k + 1)) (to_check right area end (k + 1) row.number)
  unfolding rows_from
  check_row h =
      let m : end - k ≡ suc (end - (k + 1)) = omega arith in
      let next : 1 + width * (k + 1) ≡ 1 + width * k + width = omega arith in
      rw (m, next, cut_more, ← (add-one (k + 1)))

  -- the check stops at a row, or goes on
  pub check_wrong : {x : Verdict} {r : Bool} → k < end → r ≡ right before row → not r ≡ true → to_check right area end k before ≡ x
      → Refused refusal.wrong_row (k + 1) ≡ x
  check_wrong h e t i = sym (check_row h ∙ rw (← e, t)) ∙ i

  pub check_right : {x : Verdict} {r : Bool} → k < end → r ≡ right before row → not r ≡ false → to_check right area end k before ≡ x
      → to_check right area end (k + 1) row.number ≡ x
  check_right h e t i = sym (check_row h ∙ rw (← e, t)) ∙ i

  pub check_end : k ≡ end → to_check right area end k before ≡ Passed
  unfolding rows_from cut
  check_end e = let z : end - k ≡ 0 = omega arith in rw z

-- the whole checks
pub standing_start : (C : ℕ) (area : List ℕ) → to_check (stands_right C) area (count_in area) 0 0 ≡ standing_verdict C area
unfolding rows_of
standing_start C area = rw sub-zero

pub unused_start : (area : List ℕ) → to_check unused_after area room (count_in area) 0 ≡ unused_verdict area
unused_start area = rw add-one

-- among unused rows the number before does not matter
pub unused_on : {x : Verdict} {r : Bool} (area : List ℕ) (k : ℕ) → k < room → r ≡ unused_right (row_of area (1 + width * k)) → not r ≡ false
    → to_check unused_after area room k 0 ≡ x → to_check unused_after area room (k + 1) 0 ≡ x
unused_on area k h e t i = before_any (k + 1 + 1) 0 _ _ ∙ check_right unused_after area room k 0 h e t i

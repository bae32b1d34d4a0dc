-- The first row alone in its trip. Assumes nothing.
use Rattle.std.proofs.Common.{◌≡◌, ℕ, zero, suc, ◌+◌, ◌<◌, ◌≤◌, Bool, true, false, not, ◌&&◌, ◌||◌, ltb, ◌↔◌, List, [], ◌∷◌, length, sym, refl, ◌∙◌, ap₂, ⊎_elim, add-zero, arith, ltb-true, lt-ltb, eq-eqb, eqb-true}
use mathlib.Core.Bool.{or-false}
use borrow.Author.Tests.{not-false}
use lib.Dec.{leb-suc-suc}
use Rattle.refusals.specs.Answers.{refuse_if, or_else, first_below, Verdict, Passed, Refused}
use Rattle.timetable.proofs.Tests.{Faults, by_lt, by_eq, by_bool, not_both, or_cases, or_left, or_right, and_left, and_right, and_both}
use Rattle.timetable.proofs.Order.{passed_not_refused, or_passed, else_assoc, Rule, rule, below_passed, below_refused}
use Rattle.refusals.specs.RefusalNumber as refusal
use Rattle.gtfs.specs.Feed.{same_trip, alone_verdict}
use Rattle.gtfs.specs.declared.StopTime.{StopTime}
use Rattle.feed_meanings.specs.Texts.{row_at, InOrder, Alone}
use Rattle.feed_meanings.proofs.Order.{trips_rise}

-- the first refusal of all is that of the first, or of those after it
first_split : (v : ℕ → Verdict) (n : ℕ) → first_below v (suc n) ≡ or_else (v 0) (first_below (λ k. v (suc k)) n)
unfolding first_below
first_split v zero = sym (or_passed (v 0))
first_split v (suc n) = rw (first_split v n) (else_assoc (v 0) (first_below (λ k. v (suc k)) n) (v (suc n)))

-- the same verdicts give the same
first_same : (v w : ℕ → Verdict) (n : ℕ) → ((k : ℕ) → v k ≡ w k) → first_below v n ≡ first_below w n
unfolding first_below
first_same v w zero h = refl
first_same v w (suc n) h = rw (first_same v w n h, h n)

-- whether the row at a place has the trip of the row before it, which is given for the first; that of the row after it; either
abbrev joined_at : Bool → List StopTime → ℕ → Bool
joined_at joined rows zero = joined
joined_at joined rows (suc k) = same_trip (row_at rows k) (row_at rows (suc k))

abbrev goes_on_at : List StopTime → ℕ → Bool
goes_on_at rows k = ltb (suc k) (length rows) && same_trip (row_at rows k) (row_at rows (suc k))

abbrev beside : Bool → List StopTime → ℕ → Bool
beside joined rows k = joined_at joined rows k || goes_on_at rows k

abbrev alone_at : ℕ → Bool → List StopTime → ℕ → Verdict
alone_at k joined rows j = refuse_if (not (beside joined rows j)) refusal.wrong_text_row (k + j)

-- a row further on
beside_next : (joined : Bool) (row next : StopTime) (rows : List StopTime) (j : ℕ)
    → beside (same_trip row next) (next ∷ rows) j ≡ beside joined (row ∷ next ∷ rows) (suc j)
beside_next joined row next rows zero = rw (leb-suc-suc 2 (suc (length rows)))
beside_next joined row next rows (suc j) = rw (leb-suc-suc (suc (suc (suc j))) (suc (length rows)))

alone_next : (k : ℕ) (joined : Bool) (row next : StopTime) (rows : List StopTime) (j : ℕ)
    → alone_at (suc k) (same_trip row next) (next ∷ rows) j ≡ alone_at k joined (row ∷ next ∷ rows) (suc j)
alone_next k joined row next rows j =
    let e : suc k + j ≡ k + suc j = omega arith in
    rw (e, beside_next joined row next rows j)

-- the first row
alone_here : (k : ℕ) (joined : Bool) (row next : StopTime) (rows : List StopTime)
    → refuse_if (not (joined || same_trip row next)) refusal.wrong_text_row k ≡ alone_at k joined (row ∷ next ∷ rows) 0
alone_here k joined row next rows = rw (add-zero k, lt-ltb 1 (suc (suc (length rows))) (omega arith))

-- the verdict is the first refusal of a row
alone_first : (k : ℕ) (joined : Bool) (rows : List StopTime)
    → alone_verdict k joined rows ≡ first_below (alone_at k joined rows) (length rows)
unfolding alone_verdict first_below
alone_first k joined [] = refl
alone_first k joined (row ∷ []) = rw (add-zero k, or-false joined)
alone_first k joined (row ∷ next ∷ rows) =
    ap₂ or_else
    (alone_here k joined row next rows)
    (alone_first (suc k) (same_trip row next) (next ∷ rows)
    ∙ first_same _ (λ j. alone_at k joined (row ∷ next ∷ rows) (suc j)) (suc (length rows)) (alone_next k joined row next rows))
    ∙ sym (first_split (alone_at k joined (row ∷ next ∷ rows)) (suc (length rows)))

-- of rows in order, one is alone in its trip exactly if neither the row before it nor the one after it has its trip
module _ (rows : List StopTime) (o : InOrder rows) where
  same : (j k : ℕ) → same_trip (row_at rows j) (row_at rows k) ≡ true → (row_at rows j).trip ≡ (row_at rows k).trip
  same j k h = eqb-true (row_at rows j).trip (row_at rows k).trip h

  is_same : (j k : ℕ) → (row_at rows j).trip ≡ (row_at rows k).trip → same_trip (row_at rows j) (row_at rows k) ≡ true
  is_same j k e = eq-eqb (row_at rows j).trip (row_at rows k).trip e

  next_beside : (k : ℕ) → goes_on_at rows k ≡ true → Alone rows k → ⊥
  next_beside k h a =
      let room = ltb (suc k) (length rows) in
      let trips = same_trip (row_at rows k) (row_at rows (suc k)) in
      let l = ltb-true (suc k) (length rows) (and_left room trips h) in
      let e = a (suc k) l (sym (same k (suc k) (and_right room trips h))) in
      omega arith

  not_alone : (k : ℕ) → k < length rows → beside false rows k ≡ true → Alone rows k → ⊥
  not_alone zero l h a = next_beside 0 h a
  not_alone (suc k) l h a =
      ⊎_elim
      (λ b. let e = a k (omega arith) (same k (suc k) b) in omega arith)
      (λ b. next_beside (suc k) b a)
      (or_cases (same_trip (row_at rows k) (row_at rows (suc k))) (goes_on_at rows (suc k)) h)

  later : (j k : ℕ) → k < j → j < length rows → (row_at rows j).trip ≡ (row_at rows k).trip → goes_on_at rows k ≡ true
  later j k h l e =
      let p = trips_rise rows o k (suc k) (omega arith) (omega arith) in
      let q = trips_rise rows o (suc k) j h l in
      and_both (ltb (suc k) (length rows)) _ (lt-ltb (suc k) (length rows) (omega arith)) (is_same k (suc k) (omega arith))

  another : (j k : ℕ) → j < length rows → k < length rows → (row_at rows j).trip ≡ (row_at rows k).trip → (j ≡ k → ⊥)
      → beside false rows k ≡ true
  another j zero l m e d = later j 0 (omega arith) l e
  another j (suc k) l m e d =
      ⊎_elim
      (λ (b : j < suc k).
      let p = trips_rise rows o j k (omega arith) (omega arith) in
      let q = trips_rise rows o k (suc k) (omega arith) m in
      or_left _ (goes_on_at rows (suc k)) (is_same k (suc k) (omega arith)))
      (λ (b : suc k ≤ j). or_right (same_trip (row_at rows k) (row_at rows (suc k))) _ (later j (suc k) (omega arith) l e))
      (by_lt j (suc k))

  is_alone : (k : ℕ) → k < length rows → beside false rows k ≡ false → Alone rows k
  is_alone k l b j m e = ⊎_elim (λ d. d) (λ d. absurd (not_both (another j k m l e d) b)) (by_eq j k)

  beside_iff : (k : ℕ) → k < length rows → Faults (not (beside false rows k)) (Alone rows k → ⊥)
  beside_iff k l = (
    λ h. not_alone k l (not-false (beside false rows k) h),
    λ n. ⊎_elim (λ b. rw b) (λ b. absurd (n (is_alone k l b))) (by_bool (beside false rows k)),
  )

  -- a row's verdict
  at_row : (k : ℕ) → k < length rows → Rule (alone_at 1 false rows k) refusal.wrong_text_row (1 + k) (Alone rows k → ⊥)
  at_row k l = rule (not (beside false rows k)) refusal.wrong_text_row (1 + k) (beside_iff k l)

  refused_at : {n p : ℕ} (k : ℕ) → k < length rows → alone_at 1 false rows k ≡ Refused n p
      → (n ≡ refusal.wrong_text_row) × (p ≡ suc k) × Alone rows k
  refused_at k l r =
      ⊎_elim
      (λ b. absurd (passed_not_refused ((at_row k l).holds (not_alone k l b)) r))
      (λ b. let e : 1 + k ≡ suc k = omega arith in let f = (at_row k l).finds (λ n. n (is_alone k l b)) in (cc, cc, is_alone k l b))
      (by_bool (beside false rows k))

  -- no row is alone
  pub alone_passed : (alone_verdict 1 false rows ≡ Passed) ↔ ((k : ℕ) → k < length rows → Alone rows k → ⊥)
  alone_passed =
      let below = below_passed (alone_at 1 false rows) (length rows) in (
        λ h k l. (at_row k l).keeps (below.0 (sym (alone_first 1 false rows) ∙ h) k l),
        λ n. alone_first 1 false rows ∙ below.1 (λ k l. (at_row k l).holds (n k l)),
      )

  -- the first that is
  pub alone_refused : (n p : ℕ) → (alone_verdict 1 false rows ≡ Refused n p)
      ↔ ((k : ℕ) × (k < length rows) × (n ≡ refusal.wrong_text_row) × (p ≡ suc k) × Alone rows k × ((j : ℕ) → j < k → Alone rows j → ⊥))
  alone_refused n p =
      let below = below_refused (alone_at 1 false rows) (length rows) n p in (
        λ h.
            let s = below.0 (sym (alone_first 1 false rows) ∙ h) in
            let l = s.1 in
            let r = refused_at s.0 l s.2 in
            (s.0, l, r.0, r.1, r.2, λ j m. (at_row j (omega arith)).keeps (s.3 j m)),
        λ h.
            let l = h.1 in
            let e : 1 + h.0 ≡ suc h.0 = omega arith in
            let f = (at_row h.0 l).finds (λ g. g h.4) ∙ ap₂ Refused (sym h.2) (e ∙ sym h.3) in
            alone_first 1 false rows ∙ below.1 (h.0, l, f, λ j m. (at_row j (omega arith)).holds (h.5 j m)),
      )

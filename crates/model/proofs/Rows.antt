-- The check of a notice area (refusal 23): it passes the areas of well-formed notices, whatever it passes is such an area, and
-- where it refuses it names the first wrong row. Assumes nothing.
use Rattle.std.proofs.Common.{◌≡◌, ℕ, zero, suc, ◌+◌, ◌-◌, ◌*◌, ◌<◌, ◌≤◌, Bool, true, false, cond, not, ◌&&◌, ltb, leb, ◌⊎◌, List, [], ◌∷◌, ◌++◌, length, drop, replicate, sym, refl, ap, ◌∙◌, ap₂, inl, inr, ⊎_elim, true≢false, arith, drop-drop, ltb-false, ltb-true, le-ltb, lt-ltb, le-leb, leb-true}
use borrow.Author.Tests.{not-false}
use lib.ListN.{get_or-append}
use Rattle.refusals.specs.Answers.{refuse_if, or_else, Verdict, Passed, Refused}
use Rattle.model.specs.Notices.{width, room, notices_length, least_delay, most_standing, unused_row, row_at, flat, cut, area_of, count_in, rows_of, unused_of, stands_right, unused_right, rows_from, standing_verdict, unused_verdict, rows_verdict, Within, Ascending, WellFormed}
use Rattle.model.specs.declared.Notice.{Notice}
use Rattle.refusals.specs.RefusalNumber as refusal
use Rattle.timetable.proofs.Order.{or_passed}
use Rattle.model.proofs.ByCases.{by_lt, by_bool, and_left, and_right, one_more}
use Rattle.model.proofs.Verdicts.{passed_not_refused, else_passed, if_passed}
use Rattle.model.proofs.Areas.{unused_right_lem, unused_is, length_cut, flat_unused, count_area, rows_area, unused_area, area_parts, count_rows, parts, rows_append, unused_append}

-- what a standing row's test means
abbrev pub Fits : ℕ → ℕ → Notice → Type 0
Fits C before n = (before < n.number) × Within C n

pub fits_right : (C before : ℕ) (n : Notice) → Fits C before n → stands_right C before n ≡ true
unfolding stands_right
fits_right C before n h = rw (lt-ltb _ _ h.0, lt-ltb _ _ h.1.exists, le-leb _ _ h.1.least, le-leb _ _ h.1.most)

pub right_fits : (C before : ℕ) (n : Notice) → stands_right C before n ≡ true → Fits C before n
unfolding stands_right
right_fits C before n h =
    let number = ltb before n.number in
    let connection = ltb n.connection C in
    let least = leb least_delay n.delay in
    let most = leb n.delay most_standing in
    let a = and_left (number && connection && least) most h in
    let b = and_left (number && connection) least a in (
      ltb-true _ _ (and_left number connection b),
      record {
        exists = ltb-true _ _ (and_right number connection b);
        least = leb-true _ _ (and_right (number && connection) least a);
        most = leb-true _ _ (and_right (number && connection && least) most h);
      },
    )

-- a row that passed, and what follows
on : (b : Bool) (k : ℕ) (v : Verdict) → or_else (refuse_if (not b) refusal.wrong_row k) v ≡ Passed → (b ≡ true) × (v ≡ Passed)
on b k v h =
    let e = (else_passed (refuse_if (not b) refusal.wrong_row k) v).0 h in
    (not-false b ((if_passed (not b) refusal.wrong_row k).0 e.0), e.1)

-- rows that stand pass if and only if they ascend, each within its limits
standing_pass : (C k before : ℕ) (ns : List Notice) → Ascending C before ns → rows_from (stands_right C) k before ns ≡ Passed
unfolding rows_from
standing_pass C k before [] h = refl
standing_pass C k before (n ∷ ns) h =
    rw (fits_right C before n (h.0, h.1)) (standing_pass C (suc k) n.number ns h.2)

standing_passed : (C k before : ℕ) (ns : List Notice) → rows_from (stands_right C) k before ns ≡ Passed → Ascending C before ns
unfolding rows_from
standing_passed C k before [] h = tt
standing_passed C k before (n ∷ ns) h =
    let t = on _ _ _ h in
    let f = right_fits C before n t.0 in
    (f.0, f.1, standing_passed C (suc k) n.number ns t.1)

-- other rows pass if and only if they are unused
abbrev pub unused_after : ℕ → Notice → Bool
unused_after before n = unused_right n

pub unused_pass : (k before m : ℕ) → rows_from unused_after k before (replicate m unused_row) ≡ Passed
unfolding rows_from
unused_pass k before zero = refl
unused_pass k before (suc m) = rw unused_right_lem (unused_pass (suc k) 0 m)

unused_passed : (k before : ℕ) (ns : List Notice) → rows_from unused_after k before ns ≡ Passed → ns ≡ replicate (length ns) unused_row
unfolding rows_from
unused_passed k before [] h = refl
unused_passed k before (n ∷ ns) h =
    let t = on _ _ _ h in
    ap₂ (λ (x : Notice) (r : List Notice). x ∷ r) (unused_is n t.0) (unused_passed (suc k) n.number ns t.1)

-- the area of well-formed notices passes
pub area_right : (C : ℕ) (ns : List Notice) (rest : List ℕ) → WellFormed C ns → rows_verdict C (area_of ns ++ rest) ≡ Passed
unfolding rows_verdict
area_right C ns rest w =
    rw (unused_area ns rest w.fits, rows_area ns rest, count_area ns rest, le-ltb room (length ns) w.fits, standing_pass C 1 0 ns w.ascending)
    (unused_pass (suc (length ns)) 0 (room - length ns))

module _ (C : ℕ) (area : List ℕ) (h : rows_verdict C area ≡ Passed) where
  passed_count : (refuse_if (ltb room (count_in area)) refusal.wrong_row 0 ≡ Passed) × (or_else (standing_verdict C area) (unused_verdict area) ≡ Passed)
  unfolding rows_verdict
  passed_count = (else_passed (refuse_if (ltb room (count_in area)) refusal.wrong_row 0) _).0 h

  passed_rows : (standing_verdict C area ≡ Passed) × (unused_verdict area ≡ Passed)
  passed_rows = (else_passed (standing_verdict C area) (unused_verdict area)).0 passed_count.1

  -- an area that passes holds no more notices than there is room for
  pub passed_fits : count_in area ≤ room
  passed_fits = ltb-false _ _ ((if_passed _ refusal.wrong_row 0).0 passed_count.0)

-- it is that of its notices, and these are well formed
pub area_read : (C : ℕ) (area : List ℕ) → notices_length ≤ length area → rows_verdict C area ≡ Passed
    → (area ≡ area_of (rows_of area) ++ drop notices_length area) × WellFormed C (rows_of area)
area_read C area long h =
    let k = count_in area in
    let rest = drop notices_length area in
    let p = passed_rows C area h in
    let fits = passed_fits C area h in
    let unused : unused_of area ≡ replicate (room - k) unused_row = rw length_cut at (unused_passed _ _ (unused_of area) p.1) in
    let z : width * (room - k) ≡ width * room - width * k = omega arith in
    let zeros : flat (unused_of area) ≡ replicate (width * room - width * k) 0 =
    ap flat unused ∙ flat_unused (room - k) ∙ ap (λ (m : ℕ). replicate m 0) z in (
      parts area long fits
          ∙ ap (λ (y : List ℕ). k ∷ (flat (rows_of area) ++ (y ++ rest))) zeros
          ∙ area_parts (rows_of area) rest k (sym (count_rows area)),
      record { ascending = standing_passed C 1 0 (rows_of area) p.0; fits = rw (count_rows area) fits },
    )

module _ (C : ℕ) (xs rest : List ℕ) (long : notices_length ≤ length xs) where
  -- the check of a notice area reads its stated length only
  pub rows_verdict_lem : rows_verdict C (xs ++ rest) ≡ rows_verdict C xs
  unfolding rows_verdict
  rows_verdict_lem =
      let c : count_in (xs ++ rest) ≡ count_in xs = get_or-append xs rest 0 0 (omega arith) in
      ⊎_elim
      (λ (l : room < count_in xs). rw (c, lt-ltb room (count_in xs) l))
      (λ (f : count_in xs ≤ room). rw (unused_append xs rest long f, rows_append xs rest long f, c))
      (by_lt room (count_in xs))

  -- and so do the notices of one that passes
  pub rows_same : rows_verdict C xs ≡ Passed → rows_of (xs ++ rest) ≡ rows_of xs
  rows_same h = rows_append xs rest long (passed_fits C xs h)

-- row k of an area, counted from 0
abbrev pub row_in : List ℕ → ℕ → Notice
row_in area k = row_at (drop (1 + width * k) area)

-- the number of the row before row k, 0 before the first
abbrev pub number_before : List ℕ → ℕ → ℕ
number_before area zero = 0
number_before area (suc k) = (row_in area k).number

-- row k is right: one that stands after the row before, an unused one by itself
unfoldable pub row_right : ℕ → List ℕ → ℕ → Bool
row_right C area k =
    cond (ltb k (count_in area)) (stands_right C (number_before area k) (row_in area k)) (unused_right (row_in area k))

-- the check of a notice area said without recursion: no row is wrong, the count is above the room, or row k is the first wrong one
pub data RowsChecked (C : ℕ) (area : List ℕ) : Verdict → Type 0 where
  all_right : count_in area ≤ room → ((j : ℕ) → j < room → row_right C area j ≡ true) → RowsChecked C area Passed
  count_over : room < count_in area → RowsChecked C area (Refused refusal.wrong_row 0)
  row_wrong : {k : ℕ} → count_in area ≤ room → k < room → row_right C area k ≡ false
      → ((j : ℕ) → j < k → row_right C area j ≡ true) → RowsChecked C area (Refused refusal.wrong_row (suc k))

-- place p, counted from 1, is that of the first wrong row
pub record FirstWrong (C : ℕ) (area : List ℕ) (p : ℕ) : Type 0 where
  pub row : ℕ
  pub place : p ≡ suc row
  pub below : row < room
  pub wrong : row_right C area row ≡ false
  pub before : (j : ℕ) → j < row → row_right C area j ≡ true

-- before unused rows the number before does not matter
pub before_any : (k b b' : ℕ) (ns : List Notice) → rows_from unused_after k b ns ≡ rows_from unused_after k b' ns
unfolding rows_from
before_any k b b' [] = refl
before_any k b b' (n ∷ ns) = refl

module _ (C : ℕ) (area : List ℕ) where
  -- the m rows from row k on, by a test
  rows_on : (ℕ → Notice → Bool) → ℕ → ℕ → Verdict
  rows_on right k m = rows_from right (suc k) (number_before area k) (cut m (drop (1 + width * k) area))

  row_turn : (right : ℕ → Notice → Bool) (k m : ℕ)
      → rows_on right k (suc m)
      ≡ or_else (refuse_if (not (right (number_before area k) (row_in area k))) refusal.wrong_row (suc k)) (rows_on right (suc k) m)
  unfolding rows_on rows_from cut
  row_turn right k m =
      let e : 1 + width * k + width ≡ 1 + width * suc k = omega arith in
      rw (drop-drop width (1 + width * k) area, e)

  -- rows that are tested as they should be: one of them is the first wrong one, or all are right
  rows_on_lem : (right : ℕ → Notice → Bool) (k m : ℕ) (v : Verdict) → count_in area ≤ room → k + m ≤ room
      → ((j : ℕ) → k ≤ j → j < k + m → row_right C area j ≡ right (number_before area j) (row_in area j))
      → ((j : ℕ) → j < k → row_right C area j ≡ true)
      → (((j : ℕ) → j < k + m → row_right C area j ≡ true) → RowsChecked C area v)
      → RowsChecked C area (or_else (rows_on right k m) v)
  unfolding rows_on cut rows_from
  rows_on_lem right k zero v h l t r f = f (λ j i. r j (omega arith))
  rows_on_lem right k (suc m) v h l t r f =
      rw (row_turn right k m, ← (t k (omega arith) (omega arith)))
      (⊎_elim
      (λ q.
      rw q
      (rows_on_lem right (suc k) m v h (omega arith) (λ j a b. t j (omega arith) (omega arith)) (one_more (λ j. row_right C area j ≡ true) k r q) (λ g. f (λ j i. g j (omega arith)))))
      (λ q. rw q (row_wrong {k = k} h (omega arith) q r))
      (by_bool (row_right C area k)))

  right_standing : (j : ℕ) → j < count_in area → row_right C area j ≡ stands_right C (number_before area j) (row_in area j)
  unfolding row_right
  right_standing j h = rw (lt-ltb j (count_in area) h)

  right_unused : (j : ℕ) → count_in area ≤ j → row_right C area j ≡ unused_right (row_in area j)
  unfolding row_right
  right_unused j h = rw (le-ltb j (count_in area) h)

  -- the rows past those that stand, where all of these are right
  others_checked : count_in area ≤ room → ((j : ℕ) → j < count_in area → row_right C area j ≡ true) → RowsChecked C area (unused_verdict area)
  unfolding rows_on
  others_checked h r =
      let k = count_in area in
      rw (before_any (suc k) 0 (number_before area k) (unused_of area), ← (or_passed (rows_on unused_after k (room - k))))
      (rows_on_lem unused_after k (room - k) Passed h (omega arith) (λ j l m. right_unused j l) r (λ g. all_right h (λ j l. g j (omega arith))))

  -- what the check of a notice area means
  pub rows_checked : RowsChecked C area (rows_verdict C area)
  unfolding rows_verdict rows_of rows_on
  rows_checked =
      ⊎_elim
      (λ l. rw (lt-ltb room (count_in area) l) (count_over l))
      (λ h.
      rw (le-ltb room (count_in area) h)
      (rows_on_lem (stands_right C) 0 (count_in area) (unused_verdict area) h (omega arith)
      (λ j l m. right_standing j (omega arith)) (λ j l. absurd (omega arith)) (λ g. others_checked h (λ j l. g j (omega arith)))))
      (by_lt room (count_in area))

  -- and no other verdict means it
  pub checked_only : (v w : Verdict) → RowsChecked C area v → RowsChecked C area w → v ≡ w
  checked_only v w (all_right h r) (all_right h' r') = refl
  checked_only v w (all_right h r) (count_over l) = absurd (omega arith)
  checked_only v w (all_right h r) (row_wrong h' l q r') = absurd (true≢false (sym (r _ l) ∙ q))
  checked_only v w (count_over l) (all_right h r) = absurd (omega arith)
  checked_only v w (count_over l) (count_over l') = refl
  checked_only v w (count_over l) (row_wrong h l' q r) = absurd (omega arith)
  checked_only v w (row_wrong h l q r) (all_right h' r') = absurd (true≢false (sym (r' _ l) ∙ q))
  checked_only v w (row_wrong h l q r) (count_over l') = absurd (omega arith)
  checked_only v w (row_wrong {k} h l q r) (row_wrong {k = i} h' l' q' r') =
      ⊎_elim
      (λ (b : k < i). absurd (true≢false (sym (r' k b) ∙ q)))
      (λ (g : i ≤ k).
      ⊎_elim
      (λ (b : i < k). absurd (true≢false (sym (r i b) ∙ q')))
      (λ (b : k ≤ i). let e : k ≡ i = omega arith in rw e)
      (by_lt i k))
      (by_lt k i)

  -- the place of refusal 23: 0 if the count is above the room, else the first wrong row, counted from 1
  pub rows_place : (n p : ℕ) → rows_verdict C area ≡ Refused n p
      → (n ≡ refusal.wrong_row) × (((p ≡ 0) × (room < count_in area)) ⊎ ((count_in area ≤ room) × FirstWrong C area p))
  rows_place n p h = told (rows_verdict C area) rows_checked h
    where
      told : (v : Verdict) → RowsChecked C area v → v ≡ Refused n p
          → (n ≡ refusal.wrong_row) × (((p ≡ 0) × (room < count_in area)) ⊎ ((count_in area ≤ room) × FirstWrong C area p))
      told v (all_right f r) h = absurd (passed_not_refused refl h)
      told v (count_over l) h = (cc, inl (cc, l))
      told v (row_wrong {k} f l q r) h = (cc, inr (f, record { row = k; place = cc; below = l; wrong = q; before = r }))

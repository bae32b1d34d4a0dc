-- The register's notices in the order of the notice area's rows: what the register has, corrects and strikes out, the rows have,
-- get entered and strike out. Assumes nothing.
use Rattle.std.proofs.Common.{◌≡◌, ℕ, suc, ◌+◌, ◌<◌, ◌≤◌, Bool, true, false, not, ◌&&◌, ◌||◌, eqb, ltb, ◌⊎◌, ◌↔◌, List, [], ◌∷◌, ◌++◌, length, sym, refl, ap, ◌∙◌, ap₂, inl, inr, ⊎_elim, arith, ltb-false, ltb-true, le-ltb, lt-ltb, eqb-true}
use mathlib.Core.List.Memᴰ
use mathlib.Core.List.{Memᴰ}
use borrow.Author.Tests.{eqb-false, not-false}
use Rattle.model.specs.Notices.{notice, some, stands, stands_elsewhere, struck, inserted, entered, Ascending}
use Rattle.model.specs.declared.Notice.{Notice}
use Rattle.model.specs.Register.{has, has_elsewhere, corrected, without}
use Rattle.model.proofs.ByCases.{by_bool, by_lt, both_fail, strictly}
use Rattle.model.proofs.Verdicts.{by_test}
use Rattle.model.proofs.Entering.{Above, some_inserted, length_inserted, length_struck, inserted_from, inserted_into, inserted_front, struck_inserted, entered_new}

-- a register's notices put among some rows, one after the other
unfoldable pub arranged_on : List Notice → List Notice → List Notice
arranged_on rows [] = rows
arranged_on rows (n ∷ register) = arranged_on (inserted n rows) register

-- the rows of a register
abbrev pub arranged : List Notice → List Notice
arranged register = arranged_on [] register

-- a notice at the register's end is put among them last
pub arranged_last : (rows register : List Notice) (a : Notice) → arranged_on rows (register ++ (a ∷ [])) ≡ inserted a (arranged_on rows register)
unfolding arranged_on
arranged_last rows [] a = refl
arranged_last rows (n ∷ register) a = arranged_last (inserted n rows) register a

length_arranged : (rows register : List Notice) → length (arranged_on rows register) ≡ length rows + length register
unfolding arranged_on
length_arranged rows [] = omega arith
length_arranged rows (n ∷ register) = omega (arith, length_arranged (inserted n rows) register, length_inserted n rows)

-- there are as many rows as notices in the register
pub count_arranged : (register : List Notice) → length (arranged register) ≡ length register
count_arranged register = omega (arith, length_arranged [] register)

-- the rows and the register have the same notices
module _ (x : Notice) where
  arranged_from : (rows register : List Notice) → Memᴰ x (arranged_on rows register) → Memᴰ x rows ⊎ Memᴰ x register
  unfolding arranged_on
  arranged_from rows [] h = inl h
  arranged_from rows (n ∷ register) h =
      ⊎_elim
      (λ k. ⊎_elim (λ q. inr (Memᴰ.head q)) (λ m. inl m) (inserted_from x n rows k))
      (λ k. inr (Memᴰ.tail k))
      (arranged_from (inserted n rows) register h)

  arranged_into : (rows register : List Notice) → Memᴰ x rows ⊎ Memᴰ x register → Memᴰ x (arranged_on rows register)
  unfolding arranged_on
  arranged_into rows [] h = ⊎_elim (λ k. k) (λ k. absurd (Memᴰ.not-nil k)) h
  arranged_into rows (n ∷ register) h =
      arranged_into (inserted n rows) register
      (⊎_elim
      (λ k. inl (inserted_into x n rows (inr k)))
      (λ k. ⊎_elim (λ q. inl (inserted_into x n rows (inl q))) (λ m. inr m) (Memᴰ.cases_cons k))
      h)

  pub same_arranged : (register : List Notice) → Memᴰ x (arranged register) ↔ Memᴰ x register
  same_arranged register = (
    λ h. ⊎_elim (λ k. absurd (Memᴰ.not-nil k)) (λ k. k) (arranged_from [] register h),
    λ h. arranged_into [] register (inr h),
  )

-- what the register finds in itself by a test, the rows have too
module _ (test : Notice → Bool) (finds : List Notice → Bool) (none : finds [] ≡ false)
    (next : (n : Notice) (register : List Notice) → finds (n ∷ register) ≡ test n || finds register) where
  regroup : (h e s : Bool) → h || (e || s) ≡ (e || h) || s
  regroup true true s = refl
  regroup true false s = refl
  regroup false true s = refl
  regroup false false s = refl

  or_none : (h : Bool) → h || false ≡ h
  or_none true = refl
  or_none false = refl

  some_on : (rows register : List Notice) → some test (arranged_on rows register) ≡ finds register || some test rows
  unfolding arranged_on
  some_on rows [] = rw none
  some_on rows (n ∷ register) =
      some_on (inserted n rows) register
      ∙ rw (some_inserted test n rows, next n register) (regroup (finds register) (test n) (some test rows))

  some_arranged : (register : List Notice) → finds register ≡ some test (arranged register)
  unfolding some
  some_arranged register = sym (some_on [] register ∙ or_none (finds register))

-- the register has a number exactly if it stands by the rows, and for another connection exactly if it stands there on another
pub has_arranged : (m : ℕ) (register : List Notice) → has m register ≡ stands m (arranged register)
unfolding has stands
has_arranged m = some_arranged (λ n. eqb n.number m) (has m) refl (λ n register. refl)

pub elsewhere_arranged : (m c : ℕ) (register : List Notice) → has_elsewhere m c register ≡ stands_elsewhere m c (arranged register)
unfolding has_elsewhere stands_elsewhere
elsewhere_arranged m c =
    some_arranged (λ n. eqb n.number m && not (eqb n.connection c)) (has_elsewhere m c) refl (λ n register. refl)

-- rows in order, equal numbers side by side
abbrev Ordered : ℕ → List Notice → Type 0
Ordered least [] = Unit {0}
Ordered least (n ∷ ns) = (least ≤ n.number) × Ordered n.number ns

ordered_lower : (lower least : ℕ) (ns : List Notice) → lower ≤ least → Ordered least ns → Ordered lower ns
ordered_lower lower least [] l h = tt
ordered_lower lower least (n ∷ ns) l h = (omega (arith, h.0), h.1)

ordered_inserted : (least : ℕ) (a : Notice) (ns : List Notice) → least ≤ a.number → Ordered least ns → Ordered least (inserted a ns)
unfolding inserted
ordered_inserted least a [] l h = (l, tt)
ordered_inserted least a (n ∷ ns) l h =
    by_test (Ordered least) (ltb a.number n.number)
    (λ e. (l, (below a.number n.number (ltb-true _ _ e), h.1)))
    (λ e. (h.0, ordered_inserted n.number a ns (ltb-false _ _ e) h.1))
  where
    below : (x y : ℕ) → x < y → x ≤ y
    below x y p = omega arith

ordered_above : (least k : ℕ) (ns : List Notice) → k < least → Ordered least ns → Above k ns
ordered_above least k [] l h = tt
ordered_above least k (n ∷ ns) l h = omega (arith, h.0)

-- a notice that is not below the first row is put behind it
inserted_behind : (a n : Notice) (ns : List Notice) → ltb a.number n.number ≡ false → inserted a (n ∷ ns) ≡ n ∷ inserted a ns
unfolding inserted
inserted_behind a n ns q = rw q

module _ (m : ℕ) where
  ordered_struck : (least : ℕ) (ns : List Notice) → Ordered least ns → Ordered least (struck m ns)
  unfolding struck
  ordered_struck least [] h = tt
  ordered_struck least (n ∷ ns) h =
      by_test (Ordered least) (eqb n.number m)
      (λ e. ordered_struck least ns (ordered_lower least n.number ns h.0 h.1))
      (λ e. (h.0, ordered_struck n.number ns h.1))

  -- another number struck out
  struck_other : (a : Notice) → eqb a.number m ≡ false → (least : ℕ) (ns : List Notice) → Ordered least ns → struck m (inserted a ns) ≡ inserted a (struck m ns)
  unfolding inserted struck
  struck_other a e least [] h = rw e
  struck_other a e least (n ∷ ns) h =
      by_test (λ (l : List Notice). struck m l ≡ inserted a (struck m (n ∷ ns))) (ltb a.number n.number)
      (λ q.
      let rows = struck m (n ∷ ns) in
      rw e
      (sym (inserted_front a rows (ordered_above n.number a.number rows (ltb-true _ _ q) (ordered_struck n.number (n ∷ ns) (omega arith, h.1))))))
      (λ q.
      let r = struck_other a e n.number ns h.1 in
      ⊎_elim (λ s. rw s r) (λ s. rw s (ap (λ (l : List Notice). n ∷ l) r ∙ sym (inserted_behind a n (struck m ns) q))) (by_bool (eqb n.number m)))

  without_its : (n : Notice) (register : List Notice) → eqb n.number m ≡ true → without m (n ∷ register) ≡ without m register
  unfolding without
  without_its n register e = rw e

  without_other : (n : Notice) (register : List Notice) → eqb n.number m ≡ false → without m (n ∷ register) ≡ n ∷ without m register
  unfolding without
  without_other n register e = rw e

  arranged_struck : (rows register : List Notice) → Ordered 0 rows → struck m (arranged_on rows register) ≡ arranged_on (struck m rows) (without m register)
  unfolding arranged_on without
  arranged_struck rows [] h = refl
  arranged_struck rows (n ∷ register) h =
      let r = arranged_struck (inserted n rows) register (ordered_inserted 0 n rows (omega arith) h) in
      ⊎_elim
      (λ e. r ∙ ap₂ arranged_on (struck_inserted m n e rows) (sym (without_its n register e)))
      (λ e.
      r
      ∙ ap (λ (l : List Notice). arranged_on l (without m register)) (struck_other n e 0 rows h)
      ∙ ap (arranged_on (struck m rows)) (sym (without_other n register e)))
      (by_bool (eqb n.number m))

  -- what is struck out of the register is struck out of the rows
  pub struck_arranged : (register : List Notice) → struck m (arranged register) ≡ arranged (without m register)
  unfolding struck
  struck_arranged register = arranged_struck [] register tt

-- two notices of different numbers are put among others in either order
below_first : (a b : Notice) → a.number < b.number → (ns : List Notice) → inserted a (inserted b ns) ≡ inserted b (inserted a ns)
unfolding inserted
below_first a b l [] = rw (lt-ltb a.number b.number l, le-ltb b.number a.number (omega arith))
below_first a b l (n ∷ ns) =
    ⊎_elim
    (λ (q : b.number < n.number).
    let p = lt-ltb b.number n.number q in
    rw (p, lt-ltb a.number n.number (omega arith), lt-ltb a.number b.number l, le-ltb b.number a.number (omega arith), p))
    (λ (q : n.number ≤ b.number).
    let p = le-ltb b.number n.number q in
    ⊎_elim
    (λ (r : a.number < n.number). rw (p, lt-ltb a.number n.number r, le-ltb b.number a.number (omega arith), p))
    (λ (r : n.number ≤ a.number).
    rw (p, le-ltb a.number n.number r, p)
    (ap (λ (l : List Notice). n ∷ l) (below_first a b l ns)))
    (by_lt a.number n.number))
    (by_lt b.number n.number)

either_first : (a b : Notice) → (a.number ≡ b.number → ⊥) → (ns : List Notice) → inserted a (inserted b ns) ≡ inserted b (inserted a ns)
either_first a b d ns =
    ⊎_elim
    (λ l. below_first a b l ns)
    (λ (l : b.number ≤ a.number). sym (below_first b a (strictly b.number a.number l (λ e. d (sym e))) ns))
    (by_lt a.number b.number)

-- a notice of a number that a register has not is put among the rows before the register's or after them
inserted_arranged : (a : Notice) (rows register : List Notice) → has a.number register ≡ false
    → inserted a (arranged_on rows register) ≡ arranged_on (inserted a rows) register
unfolding arranged_on has
inserted_arranged a rows [] h = refl
inserted_arranged a rows (n ∷ register) h =
    let t = both_fail (eqb n.number a.number) (has a.number register) h in
    inserted_arranged a (inserted n rows) register t.1
    ∙ ap (λ (l : List Notice). arranged_on l register) (either_first a n (λ e. eqb-false _ _ t.0 (sym e)) rows)

-- a notice of this number that is not one for another connection
pub its_connection : (m c : ℕ) (n : Notice) → eqb n.number m ≡ true → eqb n.number m && not (eqb n.connection c) ≡ false
    → n.connection ≡ c
its_connection m c n e h = eqb-true _ _ (not-false _ (rw e at h))

-- a number that the register has not is neither corrected nor struck out
module _ (m : ℕ) where
  corrected_none : (d : ℕ) (register : List Notice) → has m register ≡ false → corrected m d register ≡ register
  unfolding has corrected
  corrected_none d [] h = refl
  corrected_none d (n ∷ register) h =
      let t = both_fail (eqb n.number m) (has m register) h in rw t.0 (ap (λ (l : List Notice). n ∷ l) (corrected_none d register t.1))

  without_none : (register : List Notice) → has m register ≡ false → without m register ≡ register
  unfolding has without
  without_none [] h = refl
  without_none (n ∷ register) h =
      let t = both_fail (eqb n.number m) (has m register) h in rw t.0 (ap (λ (l : List Notice). n ∷ l) (without_none register t.1))

  without_most : (register : List Notice) → length (without m register) ≤ length register
  unfolding without
  without_most [] = omega arith
  without_most (n ∷ register) =
      let most = without_most register in
      by_test (λ (l : List Notice). length l ≤ length (n ∷ register)) (eqb n.number m) (λ e. omega arith) (λ e. omega arith)

  -- a register from which nothing is struck out has not the number
  none_struck : (register : List Notice) → length (without m register) ≡ length register → has m register ≡ false
  unfolding has without
  none_struck [] h = refl
  none_struck (n ∷ register) h =
      ⊎_elim
      (λ (e : eqb n.number m ≡ true).
      let s : length (without m register) ≡ length (n ∷ register) = rw e at h in absurd (omega (arith, without_most register)))
      (λ (e : eqb n.number m ≡ false).
      let s : length (n ∷ without m register) ≡ length (n ∷ register) = rw e at h in rw e (none_struck register (omega arith)))
      (by_bool (eqb n.number m))

  module _ (c d : ℕ) where
    -- a number that the register has once and for this connection: corrected where it is, or struck out and put among the rows last
    corrected_last : (rows register : List Notice) → has_elsewhere m c register ≡ false → suc (length (without m register)) ≡ length register
        → arranged_on rows (corrected m d register) ≡ inserted (notice m c d) (arranged_on rows (without m register))
    unfolding arranged_on corrected without has_elsewhere
    corrected_last rows [] h k = absurd (omega arith)
    corrected_last rows (n ∷ register) h k =
        let t = both_fail (eqb n.number m && not (eqb n.connection c)) (has_elsewhere m c register) h in
        ⊎_elim
        (λ (e : eqb n.number m ≡ true).
        let o : n.connection ≡ c = its_connection m c n e t.0 in
        let s : suc (length (without m register)) ≡ length (n ∷ register) = rw e at k in
        let l : has m register ≡ false = none_struck register (omega arith) in
        rw (e, o, corrected_none d register l, without_none register l) (sym (inserted_arranged (notice m c d) rows register l)))
        (λ (e : eqb n.number m ≡ false).
        let s : suc (length (n ∷ without m register)) ≡ length (n ∷ register) = rw e at k in
        rw e (corrected_last (inserted n rows) register t.1 (omega arith)))
        (by_bool (eqb n.number m))

    -- what is corrected in the register is entered in its row
    pub corrected_arranged : (C : ℕ) (register : List Notice) → Ascending C 0 (arranged register) → has m register ≡ true → has_elsewhere m c register ≡ false
        → entered (notice m c d) (arranged register) ≡ arranged (corrected m d register)
    unfolding entered
    corrected_arranged C register a h e =
        let s = length_struck C 0 m (arranged register) (sym (has_arranged m register) ∙ h) a in
        let k : length (without m register) ≡ length (struck m (arranged register)) = sym (rw struck_arranged (count_arranged (without m register))) in
        rw (struck_arranged m register)
        (sym (corrected_last [] register e (omega (arith, count_arranged register))))

-- a notice of a new number at the register's end is entered in a row of its own
pub new_arranged : (a : Notice) (register : List Notice) → has a.number register ≡ false
    → entered a (arranged register) ≡ arranged (register ++ (a ∷ []))
new_arranged a register h =
    entered_new a (arranged register) (sym (has_arranged a.number register) ∙ h) ∙ sym (arranged_last [] register a)

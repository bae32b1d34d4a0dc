-- Entering and striking: what stands afterwards, and that well-formed notices stay so. Assumes nothing.
use Rattle.std.proofs.Common.{◌≡◌, ℕ, suc, ◌<◌, ◌≤◌, Bool, true, false, cond, not, ◌&&◌, ◌||◌, eqb, ltb, leb, ◌⊎◌, ◌↔◌, List, [], ◌∷◌, length, sym, refl, ap, ◌∙◌, inl, inr, ⊎_elim, arith, ltb-false, ltb-true, le-ltb, lt-ltb, eq-eqb, ne_eqb, eqb-true, leb-false}
use mathlib.Core.Bool.{false≢true}
use mathlib.Core.List.Memᴰ
use mathlib.Core.List.{Memᴰ}
use borrow.Author.Tests.{eqb-false}
use Rattle.model.specs.Notices.{room, some, stands, stands_elsewhere, struck, inserted, entered, Within, Ascending, WellFormed}
use Rattle.model.specs.declared.Notice.{Notice}
use Rattle.model.proofs.ByCases.{by_bool, strictly}
use Rattle.model.proofs.Verdicts.{by_test}
use Rattle.model.proofs.Rows.{Fits}

-- a conditional that is a disjunction
or_false : (a b : Bool) → cond a true b ≡ false → (a ≡ false) × (b ≡ false)
or_false true b h = (cc, cc)
or_false false b h = (refl, h)

or_true : (a b : Bool) → a ≡ false → cond a true b ≡ true → b ≡ true
or_true true b e h = cc
or_true false b e h = h

joined : (x y : Bool) → cond x true y ≡ x || y
joined true y = refl
joined false y = refl

exchange : (x y z : Bool) → cond x true (y || z) ≡ y || cond x true z
exchange true true z = refl
exchange true false z = refl
exchange false y z = refl

-- a test that some notices pass
module _ (test : Notice → Bool) where
  some_there : (ns : List Notice) → some test ns ≡ true → (n : Notice) × Memᴰ n ns × (test n ≡ true)
  unfolding some
  some_there [] h = absurd (false≢true h)
  some_there (n ∷ ns) h =
      ⊎_elim
      (λ e. (n, Memᴰ.head refl, e))
      (λ e. let r = some_there ns (or_true _ _ e h) in (r.0, Memᴰ.tail r.1, r.2))
      (by_bool (test n))

  there_some : (ns : List Notice) (x : Notice) → Memᴰ x ns → test x ≡ true → some test ns ≡ true
  unfolding some
  there_some [] x m h = absurd (Memᴰ.not-nil m)
  there_some (n ∷ ns) x m h =
      by_test (λ b. b ≡ true) (test n)
      (λ e. refl)
      (λ e.
      ⊎_elim
      (λ (q : x ≡ n). absurd (false≢true (sym e ∙ ap test (sym q) ∙ h)))
      (λ r. there_some ns x r h)
      (Memᴰ.cases_cons m))

  -- one more notice
  pub some_inserted : (a : Notice) (ns : List Notice) → some test (inserted a ns) ≡ test a || some test ns
  unfolding inserted some
  some_inserted a [] = joined (test a) false
  some_inserted a (n ∷ ns) =
      by_test (λ (l : List Notice). some test l ≡ test a || some test (n ∷ ns)) (ltb a.number n.number)
      (λ e. joined (test a) (some test (n ∷ ns)))
      (λ e. rw (some_inserted a ns) (exchange (test n) (test a) (some test ns)))

-- one of the notices has this number
abbrev pub Stands : ℕ → List Notice → Type 0
Stands m ns = (n : Notice) × Memᴰ n ns × (n.number ≡ m)

-- what it means that a notice of this number stands
pub stands_iff : (m : ℕ) (ns : List Notice) → (stands m ns ≡ true) ↔ Stands m ns
unfolding stands
stands_iff m ns = (
  λ h. let r = some_there (λ n. eqb n.number m) ns h in (r.0, r.1, eqb-true _ _ r.2),
  λ h. there_some (λ n. eqb n.number m) ns h.0 h.1 (eq-eqb _ _ h.2),
)

-- one of the notices has this number and another connection
abbrev pub StandsElsewhere : ℕ → ℕ → List Notice → Type 0
StandsElsewhere m c ns = (n : Notice) × Memᴰ n ns × (n.number ≡ m) × (n.connection ≡ c → ⊥)

-- what it means that it stands on another connection
pub elsewhere_iff : (m c : ℕ) (ns : List Notice) → (stands_elsewhere m c ns ≡ true) ↔ StandsElsewhere m c ns
unfolding stands_elsewhere
elsewhere_iff m c ns = (
  λ h.
      let r = some_there (λ n. eqb n.number m && not (eqb n.connection c)) ns h in
      let t = both (eqb r.0.number m) (eqb r.0.connection c) r.2 in
      (r.0, r.1, eqb-true _ _ t.0, eqb-false _ _ t.1),
  λ h.
      there_some (λ n. eqb n.number m && not (eqb n.connection c)) ns h.0 h.1
      (rw (eq-eqb _ _ h.2, ne_eqb _ _ h.3)),
)
  where
    both : (p q : Bool) → p && not q ≡ true → (p ≡ true) × (q ≡ false)
    both true false h = (refl, refl)
    both true true h = absurd (false≢true h)
    both false q h = absurd (false≢true h)

-- one notice more stands
pub length_inserted : (a : Notice) (ns : List Notice) → length (inserted a ns) ≡ suc (length ns)
unfolding inserted
length_inserted a [] = refl
length_inserted a (n ∷ ns) =
    by_test (λ (l : List Notice). length l ≡ suc (suc (length ns))) (ltb a.number n.number)
    (λ e. refl)
    (λ e. ap suc (length_inserted a ns))

-- a notice of a new number and within its limits keeps the order
ascending_inserted : (C before : ℕ) (a : Notice) (ns : List Notice) → Fits C before a → stands a.number ns ≡ false
    → Ascending C before ns → Ascending C before (inserted a ns)
unfolding inserted stands some
ascending_inserted C before a [] f s h = (f.0, f.1, tt)
ascending_inserted C before a (n ∷ ns) f s h =
    by_test (Ascending C before) (ltb a.number n.number)
    (λ e. (f.0, f.1, (ltb-true _ _ e, h.1, h.2)))
    (λ e.
    let t = or_false (eqb n.number a.number) (stands a.number ns) s in
    let above : n.number < a.number = strictly n.number a.number (ltb-false _ _ e) (eqb-false _ _ t.0) in
    (h.0, h.1, ascending_inserted C n.number a ns (above, f.1) t.1 h.2))

-- rows above a number are above a lower one
pub ascending_lower : (C before lower : ℕ) (ns : List Notice) → lower ≤ before → Ascending C before ns → Ascending C lower ns
ascending_lower C before lower [] l h = tt
ascending_lower C before lower (n ∷ ns) l h = (omega (arith, h.0), h.1, h.2)

-- striking keeps the order
pub ascending_struck : (C before m : ℕ) (ns : List Notice) → Ascending C before ns → Ascending C before (struck m ns)
unfolding struck
ascending_struck C before m [] h = tt
ascending_struck C before m (n ∷ ns) h =
    by_test (Ascending C before) (eqb n.number m)
    (λ e. ascending_struck C before m ns (ascending_lower C n.number before ns (omega (arith, h.0)) h.2))
    (λ e. (h.0, h.1, ascending_struck C n.number m ns h.2))

-- striking adds none
pub length_struck_le : (m : ℕ) (ns : List Notice) → length (struck m ns) ≤ length ns
unfolding struck
length_struck_le m [] = omega arith
length_struck_le m (n ∷ ns) =
    by_test (λ (l : List Notice). length l ≤ suc (length ns)) (eqb n.number m) (λ e. omega (arith, length_struck_le m ns)) (λ e. omega (arith, length_struck_le m ns))

-- a number that does not stand strikes none
pub struck_none : (m : ℕ) (ns : List Notice) → stands m ns ≡ false → struck m ns ≡ ns
unfolding struck stands some
struck_none m [] h = refl
struck_none m (n ∷ ns) h =
    let t = or_false (eqb n.number m) (stands m ns) h in rw t.0 (ap (λ (r : List Notice). n ∷ r) (struck_none m ns t.1))

-- a number below all of some ascending rows does not stand
pub stands_below : (C before m : ℕ) (ns : List Notice) → m ≤ before → Ascending C before ns → stands m ns ≡ false
unfolding stands some
stands_below C before m [] l h = refl
stands_below C before m (n ∷ ns) l h =
    let a = h.0 in
    rw (ne_eqb n.number m (λ (e : n.number ≡ m). omega arith)) (stands_below C n.number m ns (omega arith) h.2)

-- what does not stand does not stand elsewhere
pub elsewhere_none : (m c : ℕ) (ns : List Notice) → stands m ns ≡ false → stands_elsewhere m c ns ≡ false
unfolding stands_elsewhere stands some
elsewhere_none m c [] h = refl
elsewhere_none m c (n ∷ ns) h =
    let t = or_false (eqb n.number m) (stands m ns) h in rw t.0 (elsewhere_none m c ns t.1)

-- a number that stands strikes one
pub length_struck : (C before m : ℕ) (ns : List Notice) → stands m ns ≡ true → Ascending C before ns
    → suc (length (struck m ns)) ≡ length ns
unfolding struck stands some
length_struck C before m [] s h = cc
length_struck C before m (n ∷ ns) s h =
    by_test (λ (l : List Notice). suc (length l) ≡ suc (length ns)) (eqb n.number m)
    (λ (e : eqb n.number m ≡ true).
    let q : n.number ≡ m = eqb-true _ _ e in
    rw (struck_none m ns (stands_below C n.number m ns (omega arith) h.2)))
    (λ e. ap suc (length_struck C n.number m ns (or_true _ _ e s) h.2))

-- the number struck no longer stands
pub stands_struck : (m : ℕ) (ns : List Notice) → stands m (struck m ns) ≡ false
unfolding struck stands some
stands_struck m [] = refl
stands_struck m (n ∷ ns) =
    by_test (λ (l : List Notice). stands m l ≡ false) (eqb n.number m)
    (λ e. stands_struck m ns)
    (λ e. rw (e, stands_struck m ns))

-- the others that stood still stand
pub stands_other : (m k : ℕ) (ns : List Notice) → (k ≡ m → ⊥) → stands k (struck m ns) ≡ stands k ns
unfolding struck stands some
stands_other m k [] h = refl
stands_other m k (n ∷ ns) h =
    by_test (λ (l : List Notice). stands k l ≡ cond (eqb n.number k) true (stands k ns)) (eqb n.number m)
    (λ (e : eqb n.number m ≡ true).
    let q : n.number ≡ m = eqb-true _ _ e in
    rw (ne_eqb n.number k (λ (p : n.number ≡ k). h (omega arith))) (stands_other m k ns h))
    (λ e. rw (stands_other m k ns h))

-- a correction keeps the count
pub length_corrected : (C before : ℕ) (a : Notice) (ns : List Notice) → stands a.number ns ≡ true → Ascending C before ns
    → length (entered a ns) ≡ length ns
unfolding entered
length_corrected C before a ns s h = length_inserted a (struck a.number ns) ∙ length_struck C before a.number ns s h

-- a notice of a new number is one more
pub length_new : (a : Notice) (ns : List Notice) → stands a.number ns ≡ false → length (entered a ns) ≡ suc (length ns)
unfolding entered
length_new a ns s = length_inserted a (struck a.number ns) ∙ rw (struck_none a.number ns s)

-- after entering, that notice's number stands, and of the others those that did
pub stands_entered : (m : ℕ) (a : Notice) (ns : List Notice) → stands m (entered a ns) ≡ eqb a.number m || stands m ns
unfolding entered stands
stands_entered m a ns =
    some_inserted (λ n. eqb n.number m) a (struck a.number ns)
    ∙ ⊎_elim
    (λ e. rw e)
    (λ (e : eqb a.number m ≡ false).
    ap (λ b. eqb a.number m || b) (stands_other a.number m ns (λ (q : m ≡ a.number). eqb-false _ _ e (sym q))))
    (by_bool (eqb a.number m))

-- there is room for what is entered unless the number is new and 200 stand
pub entered_fits : (C : ℕ) (a : Notice) (ns : List Notice) → not (stands a.number ns) && leb room (length ns) ≡ false → WellFormed C ns
    → length (entered a ns) ≤ room
entered_fits C a ns r w =
    let f = w.fits in
    ⊎_elim
    (λ s. omega (arith, length_corrected C 0 a ns s w.ascending))
    (λ (s : stands a.number ns ≡ false).
    let l : length ns < room = leb-false _ _ (rw s at r) in omega (arith, length_new a ns s))
    (by_bool (stands a.number ns))

-- entering keeps the order
pub ascending_entered : (C before : ℕ) (a : Notice) (ns : List Notice) → Fits C before a → Ascending C before ns → Ascending C before (entered a ns)
unfolding entered
ascending_entered C before a ns f h =
    ascending_inserted C before a (struck a.number ns) f (stands_struck a.number ns) (ascending_struck C before a.number ns h)

-- entering keeps notices well formed where there is room
pub entered_formed : (C : ℕ) (a : Notice) (ns : List Notice) → Fits C 0 a → length (entered a ns) ≤ room → WellFormed C ns
    → WellFormed C (entered a ns)
entered_formed C a ns f l w = record { ascending = ascending_entered C 0 a ns f w.ascending; fits = l }

-- and so does striking
pub struck_formed : (C m : ℕ) (ns : List Notice) → WellFormed C ns → WellFormed C (struck m ns)
struck_formed C m ns w =
    let f = w.fits in record { ascending = ascending_struck C 0 m ns w.ascending; fits = omega (arith, length_struck_le m ns) }

-- who is among the notices after one was put among them
module _ (x a : Notice) where
  pub inserted_from : (ns : List Notice) → Memᴰ x (inserted a ns) → (x ≡ a) ⊎ Memᴰ x ns
  unfolding inserted
  inserted_from [] = λ h. Memᴰ.cases_cons h
  inserted_from (n ∷ ns) =
      by_test (λ (l : List Notice). Memᴰ x l → (x ≡ a) ⊎ Memᴰ x (n ∷ ns)) (ltb a.number n.number)
      (λ e h. Memᴰ.cases_cons h)
      (λ e h.
      ⊎_elim
      (λ q. inr (Memᴰ.head q))
      (λ k. ⊎_elim (λ q. inl q) (λ m. inr (Memᴰ.tail m)) (inserted_from ns k))
      (Memᴰ.cases_cons h))

  pub inserted_into : (ns : List Notice) → (x ≡ a) ⊎ Memᴰ x ns → Memᴰ x (inserted a ns)
  unfolding inserted
  inserted_into [] = λ h. ⊎_elim (λ q. Memᴰ.head q) (λ m. absurd (Memᴰ.not-nil m)) h
  inserted_into (n ∷ ns) =
      by_test (λ (l : List Notice). (x ≡ a) ⊎ Memᴰ x (n ∷ ns) → Memᴰ x l) (ltb a.number n.number)
      (λ e h. ⊎_elim (λ q. Memᴰ.head q) (λ m. Memᴰ.tail m) h)
      (λ e h.
      ⊎_elim
      (λ q. Memᴰ.tail (inserted_into ns (inl q)))
      (λ m.
      ⊎_elim (λ q. Memᴰ.head q) (λ k. Memᴰ.tail (inserted_into ns (inr k))) (Memᴰ.cases_cons m))
      h)

-- a notice put among others and its number struck out
pub struck_inserted : (m : ℕ) (a : Notice) → eqb a.number m ≡ true → (ns : List Notice) → struck m (inserted a ns) ≡ struck m ns
unfolding inserted struck
struck_inserted m a e [] = rw e
struck_inserted m a e (n ∷ ns) =
    by_test (λ (l : List Notice). struck m l ≡ struck m (n ∷ ns)) (ltb a.number n.number)
    (λ q. rw e)
    (λ q. rw (struck_inserted m a e ns))

-- a posting's notice entered: of its number there is one row, as posted, and every other row is as it was
pub record EnteredInto (a : Notice) (before after : List Notice) : Type 0 where
  pub there : Memᴰ a after
  pub only : (x : Notice) → Memᴰ x after → x.number ≡ a.number → x ≡ a
  pub one : length after ≡ suc (length (struck a.number after))
  pub others : struck a.number after ≡ struck a.number before

pub entered_into : (a : Notice) (ns : List Notice) → EnteredInto a ns (entered a ns)
unfolding entered
entered_into a ns =
    let m = a.number in
    let others : struck m (inserted a (struck m ns)) ≡ struck m ns =
    struck_inserted m a (eq-eqb m m refl) (struck m ns) ∙ struck_none m (struck m ns) (stands_struck m ns) in
    record {
      there = inserted_into a a (struck m ns) (inl refl);
      only = λ x h e.
          ⊎_elim
          (λ q. q)
          (λ k. absurd (false≢true (sym (stands_struck m ns) ∙ (stands_iff m (struck m ns)).1 (x, k, e))))
          (inserted_from x a (struck m ns) h);
      one = length_inserted a (struck m ns) ∙ ap (λ (l : List Notice). suc (length l)) (sym others);
      others = others;
    }

-- after it the number stands on that connection alone
pub entered_here : (a : Notice) (ns : List Notice) → stands_elsewhere a.number a.connection (entered a ns) ≡ false
entered_here a ns =
    ⊎_elim
    (λ h.
    let r = (elsewhere_iff a.number a.connection (entered a ns)).0 h in
    absurd (r.3 (ap (λ (x : Notice). x.connection) ((entered_into a ns).only r.0 r.1 r.2))))
    (λ h. h)
    (by_bool (stands_elsewhere a.number a.connection (entered a ns)))

-- the first of the rows, if there is one, has a higher number
abbrev pub Above : ℕ → List Notice → Type 0
Above m [] = Unit {0}
Above m (n ∷ ns) = m < n.number

pub ascending_above : (C m : ℕ) (ns : List Notice) → Ascending C m ns → Above m ns
ascending_above C m [] h = tt
ascending_above C m (n ∷ ns) h = h.0

-- before such rows a notice comes first
pub inserted_front : (a : Notice) (ns : List Notice) → Above a.number ns → inserted a ns ≡ a ∷ ns
unfolding inserted
inserted_front a [] h = refl
inserted_front a (n ∷ ns) h = rw (lt-ltb _ _ h)

-- a notice of a new number is put among the others
pub entered_new : (a : Notice) (ns : List Notice) → stands a.number ns ≡ false → entered a ns ≡ inserted a ns
unfolding entered
entered_new a ns s = rw (struck_none a.number ns s)

-- one of the first row's number takes that row's place
pub entered_over : (C : ℕ) (a n : Notice) (ns : List Notice) → n.number ≡ a.number → Ascending C n.number ns → entered a (n ∷ ns) ≡ a ∷ ns
unfolding entered struck
entered_over C a n ns e h =
    let above : Ascending C a.number ns = rw (← e) h in
    rw (eq-eqb n.number a.number e, struck_none a.number ns (stands_below C a.number a.number ns (omega arith) above))
    (inserted_front a ns (ascending_above C a.number ns above))

-- one of a higher number comes behind the first row
pub entered_behind : (a n : Notice) (ns : List Notice) → n.number < a.number → entered a (n ∷ ns) ≡ n ∷ entered a ns
unfolding entered struck inserted
entered_behind a n ns l =
    rw (ne_eqb n.number a.number (λ (e : n.number ≡ a.number). omega arith), le-ltb a.number n.number (omega arith))

-- every row's number is above the one that they all ascend from
pub among_above : (C before : ℕ) (x : Notice) (ns : List Notice) → Memᴰ x ns → Ascending C before ns → before < x.number
among_above C before x [] m h = absurd (Memᴰ.not-nil m)
among_above C before x (n ∷ ns) m h =
    let a = h.0 in
    ⊎_elim
    (λ (q : x ≡ n). rw q a)
    (λ k. omega (arith, among_above C n.number x ns k h.2))
    (Memᴰ.cases_cons m)

-- every row is within its limits
pub among_within : (C before : ℕ) (x : Notice) (ns : List Notice) → Memᴰ x ns → Ascending C before ns → Within C x
among_within C before x [] m h = absurd (Memᴰ.not-nil m)
among_within C before x (n ∷ ns) m h =
    ⊎_elim (λ (q : x ≡ n). rw q h.1) (λ k. among_within C n.number x ns k h.2) (Memᴰ.cases_cons m)

-- a notice that stands is entered again: nothing changes
pub entered_same : (C before : ℕ) (a : Notice) (ns : List Notice) → Memᴰ a ns → Ascending C before ns → entered a ns ≡ ns
entered_same C before a [] m h = absurd (Memᴰ.not-nil m)
entered_same C before a (n ∷ ns) m h =
    ⊎_elim
    (λ (q : a ≡ n).
    entered_over C a n ns (ap (λ (x : Notice). x.number) (sym q)) h.2 ∙ ap (λ (x : Notice). x ∷ ns) q)
    (λ k.
    entered_behind a n ns (among_above C n.number a ns k h.2)
    ∙ ap (λ (r : List Notice). n ∷ r) (entered_same C n.number a ns k h.2))
    (Memᴰ.cases_cons m)

-- What the tests mean, and how to go by cases on an order. Assumes nothing.
use Rattle.std.proofs.Common.{◌≡◌, ℕ, ◌<◌, ◌≤◌, Bool, true, false, not, ◌&&◌, ◌||◌, eqb, ltb, leb, ◌⊎◌, ◌↔◌, sym, refl, inl, inr, ⊎_elim, arith, ltb-false, le-ltb, eq-eqb, ne_eqb, eqb-true, leb-false}
use mathlib.Core.Bool.{false≢true}
use native.Mathlib.Decide.{dec_lt, ℕ_discrete}
use borrow.Author.Tests.{lt-leb, eqb-false, not-false}

-- by cases on an order
lt_split : {m n : ℕ} → Dec (m < n) → (m < n) ⊎ (n ≤ m)
lt_split (yes h) = inl h
lt_split (no h) = inr (omega arith)

pub by_lt : (m n : ℕ) → (m < n) ⊎ (n ≤ m)
by_lt m n = lt_split (dec_lt m n)

eq_split : {m n : ℕ} → Dec (m ≡ n) → (m ≡ n) ⊎ (m ≡ n → ⊥)
eq_split (yes h) = inl h
eq_split (no h) = inr h

pub by_eq : (m n : ℕ) → (m ≡ n) ⊎ (m ≡ n → ⊥)
by_eq m n = eq_split (ℕ_discrete m n)

pub by_bool : (p : Bool) → (p ≡ true) ⊎ (p ≡ false)
by_bool true = inl refl
by_bool false = inr refl

-- a test is not both
pub not_both : {b : Bool} → b ≡ true → b ≡ false → ⊥
not_both {b} t f = let z : ◌≡◌ {A = ℕ} 0 1 = cc in omega arith

-- both of two tests
pub and_left : (a b : Bool) → a && b ≡ true → a ≡ true
and_left true b h = refl
and_left false b h = h

pub and_right : (a b : Bool) → a && b ≡ true → b ≡ true
and_right true b h = h
and_right false b h = cc

pub and_both : (a b : Bool) → a ≡ true → b ≡ true → a && b ≡ true
and_both true b h k = k
and_both false b h k = h

-- one of two tests
pub or_cases : (p q : Bool) → p || q ≡ true → (p ≡ true) ⊎ (q ≡ true)
or_cases true q h = inl refl
or_cases false q h = inr h

pub both_fail : (p q : Bool) → p || q ≡ false → (p ≡ false) × (q ≡ false)
both_fail true q h = (h, absurd (false≢true (sym h)))
both_fail false q h = (refl, h)

pub or_left : (p q : Bool) → p ≡ true → p || q ≡ true
or_left true q h = refl
or_left false q h = absurd (false≢true h)

pub or_right : (p q : Bool) → q ≡ true → p || q ≡ true
or_right true q h = refl
or_right false q h = h

-- a test that finds fault where P does not hold
abbrev pub Faults : Bool → Type 0 → Type 0
Faults b P = (b ≡ false) ↔ P

-- the tests of two numbers
pub below : (m n : ℕ) → Faults (ltb m n) (n ≤ m)
below m n = (ltb-false m n, le-ltb m n)

pub at_most : (m n : ℕ) → Faults (leb m n) (n < m)
at_most m n = (leb-false m n, lt-leb m n)

pub equal : (m n : ℕ) → Faults (eqb m n) (m ≡ n → ⊥)
equal m n = (eqb-false m n, ne_eqb m n)

-- negated tests
pub negated : (b : Bool) → Faults (not b) (b ≡ true)
negated b = (not-false b, λ h. rw h)

pub unequal : (m n : ℕ) → Faults (not (eqb m n)) (m ≡ n)
unequal m n = (λ h. eqb-true m n (not-false _ h), λ h. rw (eq-eqb m n h))

-- faults of one test or another
pub either : (a b : Bool) {P Q : Type 0} → Faults a P → Faults b Q → Faults (a || b) (P × Q)
either true b p q = (λ h. absurd (not_both refl h), λ h. p.1 h.0)
either false b p q = (λ h. (p.0 refl, q.0 h), λ h. q.1 h.1)

-- neither of two tests passes
pub neither : (a b : Bool) → Faults (not (a || b)) ((a ≡ true) ⊎ (b ≡ true))
neither true b = (λ h. inl refl, λ h. refl)
neither false b = (λ h. inr (not-false b h), ⊎_elim (λ h. absurd (not_both h refl)) (negated b).1)

-- a test that counts only where a passes
pub only_if : (a b : Bool) {P : Type 0} → Faults b P → Faults (a && b) (a ≡ true → P)
only_if true b t = (λ h e. t.0 h, λ h. t.1 (h refl))
only_if false b t = (λ h e. absurd (not_both e refl), λ h. refl)

-- the same said in other words
pub in_words : {b : Bool} {P Q : Type 0} → Faults b P → (P → Q) → (Q → P) → Faults b Q
in_words t f g = (λ h. f (t.0 h), λ h. t.1 (g h))

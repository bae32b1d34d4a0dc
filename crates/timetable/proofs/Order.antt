-- Refusals in order: the first of a list, the first of v 0, v 1, .., v (n - 1). Assumes nothing.
use Rattle.std.proofs.Common.{◌≡◌, ℕ, zero, suc, ◌+◌, ◌<◌, ◌≤◌, Bool, true, false, ◌⊎◌, ◌↔◌, refl, inl, inr, ⊎_elim, add-one, arith}
use Rattle.refusals.specs.Answers.{refuse_if, is_passed, or_else, first_below, Verdict, Passed, Refused}
use Rattle.timetable.proofs.Tests.{Faults, not_both, by_lt}

-- no verdict is both
pub passed_not_refused : {m p : ℕ} {v : Verdict} → v ≡ Passed → v ≡ Refused m p → ⊥
passed_not_refused {m} {p} {v} h k = let z : ◌≡◌ {A = ℕ} 0 1 = cc in omega arith

-- the test of a verdict
pub passed_true : (v : Verdict) → is_passed v ≡ true → v ≡ Passed
passed_true Passed h = refl
passed_true (Refused m p) h = absurd (not_both h refl)

-- with nothing after it
pub or_passed : (v : Verdict) → or_else v Passed ≡ v
or_passed Passed = refl
or_passed (Refused m p) = refl

-- two verdicts in order
pub else_passed : (v w : Verdict) → (or_else v w ≡ Passed) ↔ ((v ≡ Passed) × (w ≡ Passed))
else_passed Passed w = (λ h. (refl, h), λ h. h.1)
else_passed (Refused m p) w = (λ h. absurd (passed_not_refused h refl), λ h. h.0)

pub else_assoc : (u v w : Verdict) → or_else (or_else u v) w ≡ or_else u (or_else v w)
else_assoc Passed v w = refl
else_assoc (Refused n p) v w = refl

pub else_refused : (v w : Verdict) (m p : ℕ)
    → (or_else v w ≡ Refused m p) ↔ ((v ≡ Refused m p) ⊎ ((v ≡ Passed) × (w ≡ Refused m p)))
else_refused Passed w m p = (λ h. inr (refl, h), ⊎_elim (λ h. absurd (passed_not_refused refl h)) (λ h. h.1))
else_refused (Refused n q) w m p = (λ h. inl h, ⊎_elim (λ h. h) (λ h. absurd (passed_not_refused h.0 refl)))

-- a verdict that is the refusal n at p unless P holds
pub record Rule (v : Verdict) (n p : ℕ) (P : Type 0) : Type 0 where
  pub keeps : v ≡ Passed → P
  pub holds : P → v ≡ Passed
  pub finds : (P → ⊥) → v ≡ Refused n p

-- a test gives a rule
pub rule : (b : Bool) (n p : ℕ) {P : Type 0} → Faults b P → Rule (refuse_if b n p) n p P
rule true n p t =
    record { keeps = λ h. absurd (passed_not_refused h refl); holds = λ h. absurd (not_both refl (t.1 h)); finds = λ h. refl }
rule false n p t = record { keeps = λ h. t.0 refl; holds = λ h. refl; finds = λ h. absurd (h (t.0 refl)) }

-- a rule in a list: it holds and the others decide, or it does not
pub pass : {v w r : Verdict} {n p : ℕ} {P : Type 0} → Rule v n p P → P → w ≡ r → or_else v w ≡ r
pass t h e = rw (t.holds h) e

pub stop : {v : Verdict} {n p : ℕ} {P : Type 0} (w : Verdict) → Rule v n p P → (P → ⊥) → or_else v w ≡ Refused n p
stop w t h = rw (t.finds h)

-- what a list of rules that passes tells
pub passes : {v : Verdict} {n p : ℕ} {P : Type 0} (w : Verdict) → Rule v n p P → or_else v w ≡ Passed → P × (w ≡ Passed)
passes {v} w t h = let e = (else_passed v w).0 h in (t.keeps e.0, e.1)

-- what a refusal by a rule tells: F holds of it if F holds where the rule finds it
pub found : {v : Verdict} {n p m q : ℕ} {P : Type 0} (F : ℕ → ℕ → Type 0) → Rule v n p P → ((P → ⊥) → F n p) → v ≡ Refused m q → F m q
found {v} {n} {p} {m} {q} {P} F t f r =
    let wrong : P → ⊥ = λ x. passed_not_refused (t.holds x) r in
    let d = t.finds wrong in
    let i : n ≡ m = cc in
    let j : p ≡ q = cc in
    rw (← i, ← j) (f wrong)

-- and a refusal by a list of rules: if F holds where the first rule finds it, and where the others do
pub refuses : {v : Verdict} {n p m q : ℕ} {P : Type 0} (w : Verdict) (F : ℕ → ℕ → Type 0) → Rule v n p P
    → ((P → ⊥) → F n p) → (P → w ≡ Refused m q → F m q) → or_else v w ≡ Refused m q → F m q
refuses {v} {n} {p} {m} {q} w F t f g h =
    ⊎_elim (λ r. found F t f r) (λ r. g (t.keeps r.0) r.1) ((else_refused v w m q).0 h)

-- the first refusal of v 0, v 1, .., v (n - 1)
module _ (v : ℕ → Verdict) where
  -- none: each passes
  pub below_passed : (n : ℕ) → (first_below v n ≡ Passed) ↔ ((k : ℕ) → k < n → v k ≡ Passed)
  unfolding first_below
  below_passed zero = (λ h k l. absurd (omega arith), λ h. refl)
  below_passed (suc n) = (
    λ h k l.
        let e = (else_passed (first_below v n) (v n)).0 h in
        ⊎_elim (λ (b : k < n). (below_passed n).0 e.0 k b) (λ (b : n ≤ k). let q : k ≡ n = omega arith in rw q e.1) (by_lt k n),
    λ h. (else_passed (first_below v n) (v n)).1 ((below_passed n).1 (λ k l. h k (omega arith)), h n (omega arith)),
  )

  -- one more that passes, and the last
  pub passed_more : (k : ℕ) → first_below v k ≡ Passed → v k ≡ Passed → first_below v (k + 1) ≡ Passed
  unfolding first_below
  passed_more k h e = rw (add-one, h) e

  pub passed_all : (k n : ℕ) → first_below v k ≡ Passed → k ≤ n → n ≤ k → first_below v n ≡ Passed
  passed_all k n h l g = let e : k ≡ n = omega arith in rw e at h

  pub passed_fewer : (k n : ℕ) → first_below v k ≡ Passed → n ≤ k → first_below v n ≡ Passed
  passed_fewer k n h l = (below_passed n).1 (λ j i. (below_passed k).0 h j (omega arith))

  -- a refusal once found stays
  pub refusal_stays : (k n m p : ℕ) → first_below v k ≡ Refused m p → k ≤ n → first_below v n ≡ Refused m p
  unfolding first_below
  refusal_stays k zero m p h l = let e : k ≡ 0 = omega arith in rw e at h
  refusal_stays k (suc n) m p h l =
      ⊎_elim
      (λ (b : k < suc n). (else_refused (first_below v n) (v n) m p).1 (inl (refusal_stays k n m p h (omega arith))))
      (λ (b : suc n ≤ k). let e : k ≡ suc n = omega arith in rw e at h)
      (by_lt k (suc n))

  -- the first k that refuses decides
  pub first_refuses : (k n m p : ℕ) → k < n → v k ≡ Refused m p → first_below v k ≡ Passed → first_below v n ≡ Refused m p
  unfolding first_below
  first_refuses k n m p l r h = refusal_stays (suc k) n m p ((else_refused (first_below v k) (v k) m p).1 (inr (h, r))) l

  -- where the first k pass and v k does not, no longer part passes
  pub fails_below : (k n : ℕ) → k < n → is_passed (v k) ≡ false → first_below v k ≡ Passed → is_passed (first_below v n) ≡ false
  fails_below k n l e h = by_verdict (v k) refl e
    where
      by_verdict : (w : Verdict) → v k ≡ w → is_passed w ≡ false → is_passed (first_below v n) ≡ false
      by_verdict Passed r i = absurd (not_both refl i)
      by_verdict (Refused m p) r i = rw (first_refuses k n m p l r h)

  -- one: some k refuses so, and all before it pass
  pub below_refused : (n m p : ℕ)
      → (first_below v n ≡ Refused m p) ↔ ((k : ℕ) × (k < n) × (v k ≡ Refused m p) × ((j : ℕ) → j < k → v j ≡ Passed))
  unfolding first_below
  below_refused zero m p = (λ h. absurd (passed_not_refused refl h), λ h. absurd (let l = h.1 in omega arith))
  below_refused (suc n) m p = (
    λ h.
        ⊎_elim
        (λ e. let s = (below_refused n m p).0 e in let l = s.1 in (s.0, omega arith, s.2, s.3))
        (λ e. (n, omega arith, e.1, (below_passed n).0 e.0))
        ((else_refused (first_below v n) (v n) m p).0 h),
    λ h. first_refuses h.0 (suc n) m p h.1 h.2 ((below_passed h.0).1 h.3),
  )

-- Verdicts: what a chain of refusals tells, and going by a test. Assumes nothing.
use Rattle.std.proofs.Common.{◌≡◌, ℕ, Bool, true, false, cond, ◌↔◌, sym, refl, arith}
pub use Rattle.timetable.proofs.Order.{passed_not_refused, else_passed, else_refused}
use Rattle.refusals.specs.Answers.{Answer, accepted, refused, refuse_if, or_else, answering, Verdict, Passed, Refused}

-- a refusal by a test that passes
pub if_passed : (b : Bool) (n p : ℕ) → (refuse_if b n p ≡ Passed) ↔ (b ≡ false)
if_passed true n p = (λ h. absurd (passed_not_refused h refl), λ h. cc)
if_passed false n p = (λ h. refl, λ h. refl)

-- a refusal by a test that refuses
pub if_refused : (b : Bool) (n p m q : ℕ) → refuse_if b n p ≡ Refused m q → (b ≡ true) × (m ≡ n) × (q ≡ p)
if_refused true n p m q h = (refl, cc, cc)
if_refused false n p m q h = absurd (passed_not_refused refl h)

-- what holds of both branches holds of a conditional
pub by_test {ℓ} : {A : Type ℓ} (P : A → Type 0) (b : Bool) {x y : A} → (b ≡ true → P x) → (b ≡ false → P y) → P (cond b x y)
by_test P true f g = f refl
by_test P false f g = g refl

-- a refusal beside a conditional on the same test
pub by_refusal {ℓ} : {A : Type ℓ} (R : Verdict → A → Type 0) (b : Bool) {n p : ℕ} {v : Verdict} {x y : A}
    → (b ≡ true → R (Refused n p) x) → (b ≡ false → R v y) → R (or_else (refuse_if b n p) v) (cond b x y)
by_refusal R true f g = f refl
by_refusal R false f g = g refl

-- no answer is both
pub accepted_not_refused : {A : Type 0} {a : A} {n p : ℕ} → ◌≡◌ {A = Answer A} (accepted a) (refused n p) → ⊥
accepted_not_refused e = let z : ◌≡◌ {A = ℕ} 0 1 = cc in omega arith

-- which verdict an answer comes from
pub answering_accepted : {A : Type 0} (v : Verdict) (a b : A) → accepted a ≡ answering v b → (v ≡ Passed) × (a ≡ b)
answering_accepted Passed a b e = (refl, cc)
answering_accepted (Refused n p) a b e = absurd (accepted_not_refused e)

pub answering_refused : {A : Type 0} (v : Verdict) (b : A) (n p : ℕ) → refused n p ≡ answering v b → v ≡ Refused n p
answering_refused Passed b n p e = absurd (accepted_not_refused (sym e))
answering_refused (Refused m q) b n p e = cc

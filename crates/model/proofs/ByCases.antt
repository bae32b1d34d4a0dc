-- How to go by cases on an order or a test, and what joined tests mean. Assumes nothing.
use Rattle.std.proofs.Common.{◌≡◌, ℕ, suc, ◌<◌, ◌≤◌, Bool, true, false, ◌⊎◌, sym, refl, inl, inr, ⊎_elim, arith}
pub use Rattle.timetable.proofs.Tests.{by_lt, by_eq, by_bool, and_left, and_right, and_both, or_cases, both_fail, or_left, or_right}

-- below n + 1 is below n, or n
pub by_last : {n k : ℕ} → k < suc n → (k < n) ⊎ (k ≡ n)
by_last {n} {k} h = ⊎_elim (λ l. inl l) (λ (g : n ≤ k). inr (omega arith)) (by_lt k n)

-- at most n and not n is below n
pub strictly : (m n : ℕ) → m ≤ n → (m ≡ n → ⊥) → m < n
strictly m n l d = omega arith

-- two tests that pass together are equal
pub same_test : (p q : Bool) → (p ≡ true → q ≡ true) → (q ≡ true → p ≡ true) → p ≡ q
same_test true q f g = sym (f refl)
same_test false true f g = g refl
same_test false false f g = refl

-- what holds below n and at n holds below n + 1
pub one_more : (P : ℕ → Type 0) (n : ℕ) → ((e : ℕ) → e < n → P e) → P n → (e : ℕ) → e < suc n → P e
one_more P n all here e l = ⊎_elim (λ k. all e k) (λ q. rw q here) (by_last l)

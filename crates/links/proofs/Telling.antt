-- What an answer tells, from one test or from a test of each number below another. Assumes nothing.
use Rattle.std.proofs.Common.{◌≡◌, ℕ, ◌<◌, Bool, true, false, length, refl, zero-add, arith}
use mathlib.Core.Bool.{false≢true}
use Rattle.std.specs.Bool.{MatchBool}
use Rattle.std.specs.List.{range_with_len, AllWithin, HoldsAt}
use Rattle.std.proofs.lemmas.List.FromFn.{length-range_with_len, get_or-range_with_len}
use Rattle.links.specs.Telling.{Tells, Told}

-- yes tells what holds, no what does not
pub tells_yes : {P : Type 0} → P → Tells true P
tells_yes p = (λ e. p, λ q. refl)

pub tells_no : {P : Type 0} → (P → ⊥) → Tells false P
tells_no n = (λ e. absurd (false≢true e), λ p. absurd (n p))

module _ {P Q : Type 0} where
  pub told : P → Q → Told true P Q
  told p q = record { tells = tells_yes p; leaves = λ e. q }

  pub denied : (P → ⊥) → Told false P Q
  denied n = record { tells = tells_no n; leaves = λ e. absurd (false≢true e) }

-- the same told in other words
pub tells_as : {b : Bool} {P Q : Type 0} → Tells b P → (P → Q) → (Q → P) → Tells b Q
tells_as t f g = (λ e. f (t.0 e), λ q. t.1 (g q))

-- what fails denies all that it follows from
pub tells_not : {b : Bool} {P Q : Type 0} → Tells b P → b ≡ false → (Q → P) → Tells false Q
tells_not t e f = tells_no (λ q. let h = t.1 (f q) in cc)

-- what the library's `all` answers of the numbers below n
pub tells_below : (P : ℕ → Type 0) (r : Bool) (n : ℕ)
    → MatchBool r (AllWithin P (range_with_len 0 n) 0 (length (range_with_len 0 n)))
    ((k : ℕ) × (k < length (range_with_len 0 n)) × HoldsAt (λ k. P k → ⊥) (range_with_len 0 n) k)
    → Tells r ((k : ℕ) → k < n → P k)
tells_below P true n h =
    tells_yes (λ k l. rw (get_or-range_with_len 0 n k 0 l, zero-add) at (h k 0 (omega arith) (omega (arith, length-range_with_len 0 n))))
tells_below P false n h =
    let l : h.0 < n = omega (arith, length-range_with_len 0 n, h.1) in
    tells_no (λ all. (rw (get_or-range_with_len 0 n h.0 0 l, zero-add) at (h.2 0)) (all h.0 l))

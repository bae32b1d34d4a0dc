-- A connection against the one before it, in numbers of 16 bits that wrap and under a mask. Assumes nothing.
use Rattle.std.proofs.Common.{◌≡◌, ℕ, ◌+◌, ◌-◌, ◌%◌, ◌^◌, ◌<◌, ◌≤◌, Bool, true, false, not, eqb, ltb, leb, ◌⊎◌, List, sym, refl, ◌∙◌, inl, inr, ⊎_elim, arith, le-ltb, lt-ltb, eq-eqb, ne_eqb, le-leb}
use borrow.Author.Tests.{lt-leb}
use lib.Bits.{bit_and, and_mask, and_zero_r}
use Rattle.timetable.specs.File.{trip, from, to, scheduled_departure, scheduled_arrival, stays_aboard}
use Rattle.timetable.specs.Check.{wrong_trip, wrong_join}
use Rattle.timetable.proofs.Tests.{by_lt}
use Rattle.timetable.proofs.Next.{stays_next}
use Rattle.connection_tests.proofs.Next.{trip_lower, trip_higher, join_next, join_none}
use Rattle.successions.specs.Next.{ComesAfter, mask_if}

-- all bits of a number
masked : (n : ℕ) → n < 2 ^ 16 → bit_and n 65535 ≡ n
masked n h = and_mask n 16 ∙ omega arith

-- at most is not less
leb_not : (m n : ℕ) → leb m n ≡ not (ltb n m)
leb_not m n = ⊎_elim (λ (l : n < m). rw (lt-leb m n l, lt-ltb n m l)) (λ (l : m ≤ n). rw (le-leb m n l, le-ltb n m l)) (by_lt n m)

module _ (f : List ℕ) where
  -- the step from the trip before, as numbers of 16 bits wrap: more than one is wrong
  module _ {c step : ℕ} (h : ComesAfter f c) (e : (step + trip f (c - 1)) % 2 ^ 16 ≡ trip f c) (fits : step < 2 ^ 16) where
    pub step_wrong : 1 < step → wrong_trip f c ≡ true
    step_wrong l =
        ⊎_elim
        (λ (k : trip f c < trip f (c - 1)). trip_lower f c h.later k)
        (λ (k : trip f (c - 1) ≤ trip f c). rw (trip_higher f c h.later k) (lt-ltb 1 (trip f c - trip f (c - 1)) (omega arith)))
        (by_lt (trip f c) (trip f (c - 1)))

    pub step_right : step ≤ 1 → wrong_trip f c ≡ false
    step_right l = rw (trip_higher f c h.later (omega arith)) (le-ltb 1 (trip f c - trip f (c - 1)) (omega arith))

    -- and the mask is all bits where it stays aboard
    pub step_mask : {mask : ℕ} → step ≤ 1 → (mask + 1) % 2 ^ 16 ≡ step → mask < 2 ^ 16 → mask ≡ mask_if (stays_aboard f c)
    step_mask {mask} l m k = rw (stays_next f c h.later) (by_step (by_lt 0 step))
      where
        by_step : (0 < step) ⊎ (step ≤ 0) → mask ≡ mask_if (eqb (trip f c) (trip f (c - 1)))
        by_step (inl i) = rw (ne_eqb (trip f c) (trip f (c - 1)) (λ g. omega arith)) (omega arith)
        by_step (inr i) = rw (eq-eqb (trip f c) (trip f (c - 1)) (omega arith)) (omega arith)

  -- under the mask a number counts only where c stays aboard
  module _ (c : ℕ) {mask apart : ℕ} (m : mask ≡ mask_if (stays_aboard f c)) (fits : apart < 2 ^ 16) (near : to f (c - 1) < 2 ^ 16)
      (e : (apart + to f (c - 1)) % 2 ^ 16 ≡ from f c) where
    pub joins_not : (bit_and apart mask ≡ 0 → ⊥) → wrong_join f c ≡ true
    joins_not k = by_aboard (stays_aboard f c) refl
      where
        by_aboard : (b : Bool) → stays_aboard f c ≡ b → wrong_join f c ≡ true
        by_aboard true a =
            rw (join_next f c a, ne_eqb (from f c) (to f (c - 1)) (λ g. k (rw (m, a) (masked apart fits ∙ omega arith))))
        by_aboard false a = absurd (k (rw (m, a) (and_zero_r apart)))

    pub joins_by : bit_and apart mask ≡ 0 → scheduled_arrival f (c - 1) < 2 ^ 16
        → leb (bit_and (scheduled_arrival f (c - 1)) mask) (scheduled_departure f c) ≡ not (wrong_join f c)
    joins_by k g = by_aboard (stays_aboard f c) refl
      where
        by_aboard : (b : Bool) → stays_aboard f c ≡ b
            → leb (bit_and (scheduled_arrival f (c - 1)) mask) (scheduled_departure f c) ≡ not (wrong_join f c)
        by_aboard true a =
            let z : apart ≡ 0 = sym (masked apart fits) ∙ (rw (m, a) at k) in
            let same = eq-eqb (from f c) (to f (c - 1)) (omega arith) in
            rw (join_next f c a, same, m, a, masked _ g) (leb_not (scheduled_arrival f (c - 1)) (scheduled_departure f c))
        by_aboard false a = rw (join_none f c a, m, a, and_zero_r) (le-leb 0 (scheduled_departure f c) (omega arith))

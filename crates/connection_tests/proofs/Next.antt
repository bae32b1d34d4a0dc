-- A connection against the one before it, in the code's numbers: c and c - 1. Assumes nothing.
use Rattle.std.proofs.Common.{◌≡◌, ℕ, zero, suc, ◌-◌, ◌<◌, ◌≤◌, true, false, not, ◌||◌, eqb, ltb, ◌⊎◌, List, refl, inl, inr, ⊎_elim, arith, le-ltb, lt-ltb, eq-eqb, ne_eqb}
use Rattle.timetable.specs.File.{trip, stays_aboard}
use Rattle.timetable.specs.Check.{wrong_trip, breaks_off, wrong_join}
use Rattle.timetable.proofs.Tests.{by_lt, not_both}
use Rattle.timetable.proofs.Next.{one_back}

-- neither the same nor one more
step : (a b : ℕ) → b ≤ a → not (eqb a b || eqb a (suc b)) ≡ ltb 1 (a - b)
step a b h = ⊎_elim (λ (l : 1 < a - b). more l) (λ (l : a - b ≤ 1). less l (by_lt b a)) (by_lt 1 (a - b))
  where
    more : 1 < a - b → not (eqb a b || eqb a (suc b)) ≡ ltb 1 (a - b)
    more l = rw (lt-ltb 1 (a - b) l, ne_eqb a b (λ e. omega arith), ne_eqb a (suc b) (λ e. omega arith))

    less : a - b ≤ 1 → (b < a) ⊎ (a ≤ b) → not (eqb a b || eqb a (suc b)) ≡ ltb 1 (a - b)
    less l (inl k) = rw (le-ltb 1 (a - b) l, eq-eqb a (suc b) (omega arith), ne_eqb a b (λ e. omega arith))
    less l (inr k) = rw (le-ltb 1 (a - b) l, eq-eqb a b (omega arith))

module _ (f : List ℕ) where
  -- a lower trip is wrong, and of the others those that are more than one higher
  pub trip_lower : (c : ℕ) → 0 < c → trip f c < trip f (c - 1) → wrong_trip f c ≡ true
  unfolding wrong_trip
  trip_lower zero h l = absurd (omega arith)
  trip_lower (suc c) h l =
      let k : trip f (suc c) < trip f c = rw one_back at l in
      rw (ne_eqb (trip f (suc c)) (trip f c) (λ e. omega arith), ne_eqb (trip f (suc c)) (suc (trip f c)) (λ e. omega arith))

  pub trip_higher : (c : ℕ) → 0 < c → trip f (c - 1) ≤ trip f c → wrong_trip f c ≡ ltb 1 (trip f c - trip f (c - 1))
  unfolding wrong_trip
  trip_higher zero h l = absurd (omega arith)
  trip_higher (suc c) h l = rw one_back (step (trip f (suc c)) (trip f c) (rw one_back at l))

  -- only a connection with one before it stays aboard
  pub aboard_later : (c : ℕ) → stays_aboard f c ≡ true → 0 < c
  unfolding stays_aboard
  aboard_later zero h = absurd (not_both h refl)
  aboard_later (suc c) h = omega arith

  -- where it stays aboard it has to join, elsewhere not
  pub join_next : (c : ℕ) → stays_aboard f c ≡ true
      → wrong_join f c ≡ breaks_off f (c - 1) c
  unfolding stays_aboard wrong_join
  join_next zero h = absurd (not_both h refl)
  join_next (suc c) h = rw (one_back, h)

  pub join_none : (c : ℕ) → stays_aboard f c ≡ false → wrong_join f c ≡ false
  unfolding stays_aboard wrong_join
  join_none zero h = refl
  join_none (suc c) h = rw h

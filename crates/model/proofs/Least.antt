-- The first by time and number: what it is, and that it is the only one. Assumes nothing.
use Rattle.std.proofs.Common.{◌≡◌, ℕ, zero, suc, ◌<◌, ◌≤◌, Bool, true, false, cond, ◌&&◌, ◌||◌, eqb, ltb, sym, refl, ◌∙◌, inl, inr, ⊎_elim, true≢false, arith, le-ltb, lt-ltb, eq-eqb, ne_eqb}
use Rattle.model.specs.Least.{none, key, least_below, Least}
use Rattle.model.proofs.ByCases.{by_lt, by_bool, one_more}

module _ (test : ℕ → Bool) (time : ℕ → ℕ) where
  -- a scan that keeps the best so far: before its first turn
  pub scan_none : Least test time 0 none
  scan_none = inl (refl, λ e l. absurd (omega arith))

  module _ (n r : ℕ) where
    -- other than none it is a number below n
    pub least_range : Least test time n r → r < none → r < n
    least_range (inl l) h = absurd (omega (arith, l.0))
    least_range (inr f) h = f.below

    -- n fails
    pub scan_fails : test n ≡ false → Least test time n r → Least test time (suc n) r
    scan_fails f (inl l) = inl (l.0, one_more (λ e. test e ≡ true → ⊥) n l.1 (λ q. true≢false (sym q ∙ f)))
    scan_fails f (inr r') = inr (record { below = omega (arith, r'.below); passes = r'.passes; least = one_more (λ e. test e ≡ true → key time r ≤ key time e) n r'.least (λ q. absurd (true≢false (sym q ∙ f))) })

    -- n is the first that passes
    pub scan_first : n ≤ none → test n ≡ true → none ≤ r → Least test time n r → Least test time (suc n) n
    scan_first s f g (inl l) = inr (record { below = omega arith; passes = f; least = one_more (λ e. test e ≡ true → key time n ≤ key time e) n (λ e h q. absurd (l.1 e h q)) (λ q. omega arith) })
    scan_first s f g (inr r') = absurd (omega (arith, r'.below))

    -- n is earlier than the best so far
    pub scan_wins : n ≤ none → test n ≡ true → r < none → time n < time r → Least test time n r → Least test time (suc n) n
    scan_wins s f g k (inl l) = absurd (omega (arith, l.0))
    scan_wins s f g k (inr r') = inr (record { below = omega arith; passes = f; least = one_more (λ e. test e ≡ true → key time n ≤ key time e) n (λ e h q. omega (arith, r'.least e h q)) (λ q. omega arith) })

    -- n is no earlier
    pub scan_loses : test n ≡ true → r < none → time r ≤ time n → Least test time n r → Least test time (suc n) r
    scan_loses f g k (inl l) = absurd (omega (arith, l.0))
    scan_loses f g k (inr r') = inr (record { below = omega (arith, r'.below); passes = r'.passes; least = one_more (λ e. test e ≡ true → key time r ≤ key time e) n r'.least (λ q. omega (arith, r'.below)) })

    -- one turn of least_below
    turn : n ≤ none → Least test time n r → Least test time (suc n) (cond (test n && (eqb r none || ltb (time n) (time r))) n r)
    turn s w =
        ⊎_elim
        (λ f. rw f
        (⊎_elim
        (λ (g : r < none).
        rw (ne_eqb r none (λ q. omega arith))
        (⊎_elim (λ k. rw (lt-ltb (time n) (time r) k) (scan_wins s f g k w)) (λ k. rw (le-ltb (time n) (time r) k) (scan_loses f g k w)) (by_lt (time n) (time r))))
        (λ (g : none ≤ r). rw (eq-eqb r none (top w g)) (scan_first s f g w))
        (by_lt r none)))
        (λ f. rw f (scan_fails f w))
        (by_bool (test n))
      where
        top : Least test time n r → none ≤ r → r ≡ none
        top (inl l) g = l.0
        top (inr f) g = absurd (omega (arith, f.below))

  -- least_below is the first, or none where none passes
  pub least_is : (n : ℕ) → n ≤ none → Least test time n (least_below test time n)
  unfolding least_below
  least_is zero h = scan_none
  least_is (suc n) h = turn n (least_below test time n) (omega arith) (least_is n (omega arith))

  -- there is only one
  pub least_unique : (n r s : ℕ) → n ≤ none → Least test time n r → Least test time n s → r ≡ s
  least_unique n r s h (inl l) (inl m) = l.0 ∙ sym m.0
  least_unique n r s h (inl l) (inr m) = absurd (l.1 s m.below m.passes)
  least_unique n r s h (inr l) (inl m) = absurd (m.1 r l.below l.passes)
  least_unique n r s h (inr l) (inr m) = omega (arith, l.least s m.below m.passes, m.least r l.below l.passes, l.below, m.below)

-- what is the first is what least_below finds
pub scan_done : (test : ℕ → Bool) (time : ℕ → ℕ) (n r : ℕ) → n ≤ none → Least test time n r → r ≡ least_below test time n
scan_done test time n r h l = least_unique test time n r (least_below test time n) h l (least_is test time n h)

-- where two tests and two times agree below n, so do their firsts
pub least_same : (p q : ℕ → Bool) (time time' : ℕ → ℕ) (n : ℕ) → n ≤ none → ((e : ℕ) → e < n → p e ≡ q e) → ((e : ℕ) → e < n → time e ≡ time' e)
    → least_below p time n ≡ least_below q time' n
least_same p q time time' n h f g = scan_done q time' n (least_below p time n) h (over (least_is p time n h))
  where
    over : Least p time n (least_below p time n) → Least q time' n (least_below p time n)
    over (inl l) = inl (l.0, λ e k r. l.1 e k (f e k ∙ r))
    over (inr r) =
        inr (record {
          below = r.below;
          passes = sym (f _ r.below) ∙ r.passes;
          least = λ e k s. omega (arith, r.least e k (f e k ∙ s), g e k, g (least_below p time n) r.below);
        })

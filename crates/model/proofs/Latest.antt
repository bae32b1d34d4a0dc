-- The register has of each number the notice of the latest accepted posting, unless it was withdrawn since. Assumes nothing.
use Rattle.std.proofs.Common.{◌≡◌, ℕ, true, false, not, ◌&&◌, eqb, leb, ◌⊎◌, ◌↔◌, List, [], ◌∷◌, ◌++◌, length, sym, ap, ◌∙◌, inl, inr, ⊎_elim, arith, eq-eqb, eqb-true}
use mathlib.Core.Bool.{false≢true}
use mathlib.Core.List.Memᴰ
use mathlib.Core.List.{Memᴰ}
use borrow.Author.Tests.{eqb-false}
use Rattle.refusals.specs.Answers.{accepted}
use Rattle.refusals.specs.RefusalNumber as refusal
use Rattle.model.specs.Notices.{notice, room, least_delay, most_posted}
use Rattle.model.specs.declared.Notice.{Notice}
use Rattle.model.specs.Register.{Call, posting, withdrawal, has, has_elsewhere, corrected, without, Step, refuse, accept, register_step, kept, NoneAccepted, Latest}
use Rattle.model.proofs.ByCases.{by_bool, both_fail, or_right}
use Rattle.model.proofs.Verdicts.{by_test, accepted_not_refused}
use Rattle.model.proofs.Register.{its_connection}

module _ (x : Notice) where
  -- a notice of this number is in the register
  among_has : (register : List Notice) → Memᴰ x register → has x.number register ≡ true
  unfolding has
  among_has [] m = absurd (Memᴰ.not-nil m)
  among_has (n ∷ register) m =
      ⊎_elim
      (λ (q : x ≡ n). rw (eq-eqb n.number x.number (ap (λ (y : Notice). y.number) (sym q))))
      (λ k. or_right (eqb n.number x.number) (has x.number register) (among_has register k))
      (Memᴰ.cases_cons m)

  module _ (m : ℕ) where
    -- who is left when a number is struck out
    left_by : (register : List Notice) → Memᴰ x (without m register) → Memᴰ x register × (x.number ≡ m → ⊥)
    unfolding without
    left_by [] = λ h. absurd (Memᴰ.not-nil h)
    left_by (n ∷ register) =
        by_test (λ (l : List Notice). Memᴰ x l → Memᴰ x (n ∷ register) × (x.number ≡ m → ⊥)) (eqb n.number m)
        (λ e h. let r = left_by register h in (Memᴰ.tail r.0, r.1))
        (λ e h.
        ⊎_elim
        (λ (q : x ≡ n). (Memᴰ.head q, λ (i : x.number ≡ m). eqb-false _ _ e (ap (λ (y : Notice). y.number) (sym q) ∙ i)))
        (λ k. let r = left_by register k in (Memᴰ.tail r.0, r.1))
        (Memᴰ.cases_cons h))

    stays : (register : List Notice) → Memᴰ x register → (x.number ≡ m → ⊥) → Memᴰ x (without m register)
    unfolding without
    stays [] h d = absurd (Memᴰ.not-nil h)
    stays (n ∷ register) h d =
        by_test (Memᴰ x) (eqb n.number m)
        (λ e.
        ⊎_elim
        (λ (q : x ≡ n). absurd (d (ap (λ (y : Notice). y.number) q ∙ eqb-true _ _ e)))
        (λ k. stays register k d)
        (Memᴰ.cases_cons h))
        (λ e. ⊎_elim (λ q. Memᴰ.head q) (λ k. Memᴰ.tail (stays register k d)) (Memᴰ.cases_cons h))

    module _ (c d : ℕ) where
      -- who is there when a number's delay is corrected
      corrected_from : (register : List Notice) → has_elsewhere m c register ≡ false → Memᴰ x (corrected m d register)
          → (x ≡ notice m c d) ⊎ (Memᴰ x register × (x.number ≡ m → ⊥))
      unfolding has_elsewhere corrected
      corrected_from [] e h = absurd (Memᴰ.not-nil h)
      corrected_from (n ∷ register) e h =
          let t = both_fail (eqb n.number m && not (eqb n.connection c)) (has_elsewhere m c register) e in
          ⊎_elim
          (λ q.
          ⊎_elim
          (λ (i : eqb n.number m ≡ true). inl ((rw i at q) ∙ ap (λ (k : ℕ). notice m k d) (its_connection m c n i t.0)))
          (λ (i : eqb n.number m ≡ false).
          let p : x ≡ n = rw i at q in
          inr (Memᴰ.head p, λ (j : x.number ≡ m). eqb-false _ _ i (ap (λ (y : Notice). y.number) (sym p) ∙ j)))
          (by_bool (eqb n.number m)))
          (λ k. ⊎_elim (λ q. inl q) (λ r. inr (Memᴰ.tail r.0, r.1)) (corrected_from register t.1 k))
          (Memᴰ.cases_cons h)

      corrected_there : (register : List Notice) → has m register ≡ true → has_elsewhere m c register ≡ false → x ≡ notice m c d
          → Memᴰ x (corrected m d register)
      unfolding has has_elsewhere corrected
      corrected_there [] s e q = absurd (false≢true s)
      corrected_there (n ∷ register) s e q =
          let t = both_fail (eqb n.number m && not (eqb n.connection c)) (has_elsewhere m c register) e in
          ⊎_elim
          (λ (i : eqb n.number m ≡ true). rw i (Memᴰ.head (q ∙ ap (λ (k : ℕ). notice m k d) (sym (its_connection m c n i t.0)))))
          (λ (i : eqb n.number m ≡ false). Memᴰ.tail (corrected_there register (rw i at s) t.1 q))
          (by_bool (eqb n.number m))

      corrected_stays : (register : List Notice) → Memᴰ x register → (x.number ≡ m → ⊥) → Memᴰ x (corrected m d register)
      unfolding corrected
      corrected_stays [] h o = absurd (Memᴰ.not-nil h)
      corrected_stays (n ∷ register) h o =
          ⊎_elim
          (λ (q : x ≡ n).
          ⊎_elim
          (λ (i : eqb n.number m ≡ true). absurd (o (ap (λ (y : Notice). y.number) q ∙ eqb-true _ _ i)))
          (λ (i : eqb n.number m ≡ false). rw i (Memᴰ.head q))
          (by_bool (eqb n.number m)))
          (λ k. Memᴰ.tail (corrected_stays register k o))
          (Memᴰ.cases_cons h)

  -- who is in the register after a call: the notice posted if it was accepted, and of the others those whose number was not answered
  abbrev After : List Notice → Call → Step → Type 0
  After register call s =
      Memᴰ x s.register
      ↔ (((call ≡ posting x.number x.connection x.delay) × (s.answer ≡ accepted x.number))
      ⊎ (Memᴰ x register × (s.answer ≡ accepted x.number → ⊥)))

  after_refusal : (register : List Notice) (call : Call) (k : ℕ) → After register call (refuse register k)
  after_refusal register call k = (
    λ h. inr (h, λ e. accepted_not_refused (sym e)),
    λ h. ⊎_elim (λ r. absurd (accepted_not_refused (sym r.1))) (λ r. r.0) h,
  )

  after_withdrawal : (register : List Notice) (n : ℕ) → After register (withdrawal n) (accept (without n register) n)
  after_withdrawal register n = (
    λ h. let r = left_by n register h in inr (r.0, λ e. let q : n ≡ x.number = cc in r.1 (sym q)),
    λ h.
        ⊎_elim
        (λ r. absurd (no_posting r.0))
        (λ r. stays n register r.0 (λ (q : x.number ≡ n). r.1 (ap (λ (k : ℕ). accepted k) (sym q))))
        h,
  )
    where
      no_posting : {n m c d : ℕ} → withdrawal n ≡ posting m c d → ⊥
      no_posting e = let z : ◌≡◌ {A = ℕ} 0 1 = cc in omega arith

  after_posting : (register next : List Notice) (n c d : ℕ)
      → (Memᴰ x next ↔ ((x ≡ notice n c d) ⊎ (Memᴰ x register × (x.number ≡ n → ⊥))))
      → After register (posting n c d) (accept next n)
  after_posting register next n c d w = (
    λ h.
        ⊎_elim
        (λ (q : x ≡ notice n c d).
        inl (ap (λ (y : Notice). posting y.number y.connection y.delay) (sym q), ap (λ (y : Notice). accepted y.number) (sym q)))
        (λ r. inr (r.0, λ e. let q : n ≡ x.number = cc in r.1 (sym q)))
        (w.0 h),
    λ h.
        w.1
        (⊎_elim
        (λ r. inl (is_posted r.0))
        (λ r. inr (r.0, λ (q : x.number ≡ n). r.1 (ap (λ (k : ℕ). accepted k) (sym q))))
        h),
  )
    where
      is_posted : posting n c d ≡ posting x.number x.connection x.delay → x ≡ notice n c d
      is_posted e =
          let q : notice x.number x.connection x.delay ≡ notice n c d = cc in q

  step_members : (C : ℕ) (register : List Notice) (call : Call) → After register call (register_step C register call)
  unfolding register_step
  step_members C register (posting n c d) =
      let P : Step → Type 0 = After register (posting n c d) in
      by_test P (eqb n 0) (λ e. after_refusal register (posting n c d) refusal.no_number)
      (λ e₁. by_test P (leb C c) (λ e. after_refusal register (posting n c d) refusal.unknown_connection)
      (λ e₂. by_test P (not (leb least_delay d && leb d most_posted)) (λ e. after_refusal register (posting n c d) refusal.wrong_delay)
      (λ e₃. by_test P (has_elsewhere n c register) (λ e. after_refusal register (posting n c d) refusal.stands_elsewhere)
      (λ e₄. by_test P (has n register)
      (λ s.
      after_posting register (corrected n d register) n c d (
        corrected_from n c d register e₄,
        ⊎_elim (λ q. corrected_there n c d register s e₄ q) (λ r. corrected_stays n c d register r.0 r.1),
      ))
      (λ s. by_test P (leb room (length register)) (λ e. after_refusal register (posting n c d) refusal.no_room)
      (λ e₅.
      after_posting register (register ++ (notice n c d ∷ [])) n c d (
        λ h.
            ⊎_elim
            (λ k. inr (k, λ (q : x.number ≡ n). false≢true (sym s ∙ (rw q at (among_has register k)))))
            (λ k. inl (Memᴰ.eq_of_singleton k))
            (Memᴰ.append_cases register h),
        ⊎_elim (λ q. Memᴰ.append_right register (Memᴰ.head q)) (λ r. Memᴰ.append_left (notice n c d ∷ []) r.0),
      )))))))
  step_members C register (withdrawal n) =
      let P : Step → Type 0 = After register (withdrawal n) in
      by_test P (eqb n 0) (λ e. after_refusal register (withdrawal n) refusal.no_number)
      (λ e₁. by_test P (not (has n register)) (λ e. after_refusal register (withdrawal n) refusal.not_standing)
      (λ e₂. after_withdrawal register n))

  -- who is in the register after some calls: whose posting is the latest accepted call of its number, or who was there and no call
  -- of its number was accepted
  kept_latest : (C : ℕ) (calls : List Call) (register : List Notice)
      → Memᴰ x (kept C register calls).register
      ↔ (Latest x calls (kept C register calls).answers ⊎ (Memᴰ x register × NoneAccepted x.number (kept C register calls).answers))
  unfolding kept
  kept_latest C [] register = (λ h. inr (h, tt), λ h. ⊎_elim (λ k. absurd k) (λ k. k.0) h)
  kept_latest C (call ∷ calls) register =
      let s = register_step C register call in
      let w = step_members C register call in
      let k = kept_latest C calls s.register in (
        λ h.
            ⊎_elim
            (λ r. inl (inl r))
            (λ r. ⊎_elim (λ q. inl (inr (q.0, q.1, r.1))) (λ q. inr (q.0, (q.1, r.1))) (w.0 r.0))
            (k.0 h),
        λ h.
            k.1
            (⊎_elim
            (⊎_elim (λ r. inl r) (λ r. inr (w.1 (inl (r.0, r.1)), r.2)))
            (λ r. inr (w.1 (inr (r.0, r.1.0)), r.1.1))
            h),
      )

-- the register of some calls has exactly the notices whose posting is the latest accepted call of its number
pub register_latest : (C : ℕ) (calls : List Call) (x : Notice)
    → Memᴰ x (kept C [] calls).register ↔ Latest x calls (kept C [] calls).answers
register_latest C calls x = (
  λ h. ⊎_elim (λ r. r) (λ r. absurd (Memᴰ.not-nil r.0)) ((kept_latest x C calls []).0 h),
  λ h. (kept_latest x C calls []).1 (inl h),
)

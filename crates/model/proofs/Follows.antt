-- What the tests for the first connection of a journey and for the next one mean. Assumes nothing.
use Rattle.std.proofs.Common.{◌≡◌, ℕ, suc, ◌<◌, ◌≤◌, Bool, true, ◌&&◌, ◌||◌, eqb, leb, ◌⊎◌, inl, inr, ⊎_elim, arith, eq-eqb, eqb-true, le-leb, leb-true}
use Rattle.model.specs.Network.{Network, Sound}
use Rattle.model.specs.Graph.{board, ready}
use Rattle.model.specs.Journeys.{can_be_first, can_follow}
use Rattle.model.proofs.ByCases.{and_left, and_right, and_both, or_cases, or_left, or_right}

module _ (net : Network) where
  -- what can be first leaves a, at t or later
  pub first_means : (a t c : ℕ) → can_be_first net a t c ≡ true → (net.from c ≡ a) × (t ≤ net.departure c)
  unfolding can_be_first
  first_means a t c h =
      (eqb-true _ _ (and_left (eqb (net.from c) a) _ h), leb-true _ _ (and_right (eqb (net.from c) a) _ h))

  -- what leaves a, at t or later, can be first
  pub first_test : (a t c : ℕ) → net.from c ≡ a → t ≤ net.departure c → can_be_first net a t c ≡ true
  unfolding can_be_first
  first_test a t c h k = and_both _ _ (eq-eqb _ _ h) (le-leb _ _ k)

  -- c is the next connection of e's trip
  abbrev pub Aboard : ℕ → ℕ → Type 0
  Aboard e c = (net.stays_aboard c ≡ true) × (c ≡ suc e)

  -- one can change from e to c
  abbrev pub Change : ℕ → ℕ → Type 0
  Change e c = (net.from c ≡ net.to e) × (ready net e (board net c) ≤ net.departure c)

  module _ (e c : ℕ) where
    abbrev meets : Bool
    meets = eqb (net.from c) (net.to e)

    abbrev next : Bool
    next = net.stays_aboard c && eqb c (suc e)

    abbrev late : Bool
    late = leb (ready net e (board net c)) (net.departure c)

    -- what can follow e starts where e ends, and is the next of its trip or leaves late enough
    pub follow_means : can_follow net e c ≡ true → (net.from c ≡ net.to e) × (Aboard e c ⊎ (ready net e (board net c) ≤ net.departure c))
    unfolding can_follow
    follow_means h = (
      eqb-true _ _ (and_left meets (next || late) h),
      ⊎_elim
          (λ l. inl (and_left (net.stays_aboard c) (eqb c (suc e)) l, eqb-true _ _ (and_right (net.stays_aboard c) (eqb c (suc e)) l)))
          (λ r. inr (leb-true _ _ r))
          (or_cases next late (and_right meets (next || late) h)),
    )

    -- what one can change to can follow
    pub change_follows : Change e c → can_follow net e c ≡ true
    unfolding can_follow
    change_follows h = and_both meets (next || late) (eq-eqb _ _ h.0) (or_right next late (le-leb _ _ h.1))

    -- so can the next of the trip
    pub aboard_follows : net.from c ≡ net.to e → Aboard e c → can_follow net e c ≡ true
    unfolding can_follow
    aboard_follows f h = and_both meets (next || late) (eq-eqb _ _ f) (or_left next late (and_both _ _ h.0 (eq-eqb _ _ h.1)))

  module _ (sound : Sound net) where
    -- the next of a trip does not leave before the one before it arrives
    pub keeps_order : (e c : ℕ) → c < net.connections → Aboard e c → net.arrival e ≤ net.departure c
    keeps_order e c l h = rw h.1 (sound.keeps e (rw h.1 at l) (rw h.1 at h.0))

    -- and leaves from where that one ends
    pub keeps_stop : (e c : ℕ) → c < net.connections → Aboard e c → net.from c ≡ net.to e
    keeps_stop e c l h = rw h.1 (sound.joins e (rw h.1 at l) (rw h.1 at h.0))

    -- what can follow leaves later
    pub follows_later : (e c : ℕ) → e < net.connections → c < net.connections → can_follow net e c ≡ true → net.departure e < net.departure c
    follows_later e c k l h =
        ⊎_elim (λ b. omega (arith, sound.forward e k, keeps_order e c l b)) (λ (r : ready net e (board net c) ≤ net.departure c). omega (arith, sound.forward e k)) (follow_means e c h).1

-- What a visit leaves, entry by entry. Assumes nothing.
use Rattle.std.proofs.Common.{◌≡◌, ℕ, ◌<◌, ◌≤◌, min, ◌⊎◌, List, length, get_or, refl, ◌∙◌, inl, inr, ⊎_elim, arith, length-set, get_or-set_other, get_or-set_same, le-ltb, lt-ltb}
use Rattle.model.specs.Least.{none}
use Rattle.model.specs.Network.{Network}
use Rattle.model.specs.Graph.{waiting, transfer}
use Rattle.model.proofs.ByCases.{by_lt, by_eq}
use Rattle.settling.specs.Settled.{settled}
use Rattle.visits.specs.Visits.{offered, passed_on, visited}
use Rattle.visits.proofs.Steps.{length_passed_on, length_visited}

-- what an offer leaves at c
offered_at : (l : List ℕ) (x e c : ℕ) → c < length l
    → ((c ≡ x → ⊥) × (get_or (offered l x e) c none ≡ get_or l c none)) ⊎ ((c ≡ x) × (get_or (offered l x e) c none ≡ min (get_or l c none) e))
unfolding offered
offered_at l x e c h =
    ⊎_elim
    (λ q. inr (q, rw (← q) (get_or-set_same l c (min (get_or l c none) e) none h)))
    (λ u. inl (u, get_or-set_other l x c (min (get_or l x none) e) none u))
    (by_eq c x)

-- an offer keeps the length
length_offered : (l : List ℕ) (x e : ℕ) → length (offered l x e) ≡ length l
unfolding offered
length_offered l x e = length-set l x (min (get_or l x none) e)

module _ (net : Network) (a t : ℕ) where
  -- the entry of c after the visit of d is the one before, or what d had collected, or d itself
  abbrev pub Source : List ℕ → ℕ → ℕ → ℕ → Type 0
  Source work d c x =
      (x ≡ get_or work c none)
      ⊎ (((c ≡ waiting net d) × (x ≡ get_or work d none)) ⊎ ((c ≡ transfer net d) × (settled net a t work d < none) × (x ≡ d)))

  -- what a visit of d leaves
  pub record Leaves (work : List ℕ) (d : ℕ) (after : List ℕ) : Type 0 where
    pub kept : length after ≡ length work
    pub here : get_or after d none ≡ settled net a t work d
    pub no_more : (c : ℕ) → c < net.connections → (c ≡ d → ⊥) → get_or after c none ≤ get_or work c none
    pub waited : waiting net d < net.connections → (waiting net d ≡ d → ⊥) → get_or after (waiting net d) none ≤ get_or work d none
    pub moved : transfer net d < net.connections → (transfer net d ≡ d → ⊥) → settled net a t work d < none → get_or after (transfer net d) none ≤ d
    pub source : (c : ℕ) → c < net.connections → (c ≡ d → ⊥) → Source work d c (get_or after c none)

  module _ (work : List ℕ) (d : ℕ) (long : length work ≡ net.connections) where
    abbrev b : ℕ
    b = get_or work d none

    abbrev m : ℕ
    m = settled net a t work d

    abbrev one : List ℕ
    one = offered work (waiting net d) b

    abbrev two : List ℕ
    two = passed_on net a t work d

    abbrev three : List ℕ
    three = visited net a t work d

    -- what the offer along the transfer arc leaves
    three_at : (c : ℕ) → c < net.connections
        → ((get_or three c none ≡ get_or two c none) × (c ≡ transfer net d → m < none → ⊥)) ⊎ ((c ≡ transfer net d) × (m < none) × (get_or three c none ≡ min (get_or two c none) d))
    unfolding visited
    three_at c l =
        ⊎_elim
        (λ (k : m < none).
        rw (lt-ltb m none k)
        (⊎_elim (λ f. inl (f.1, λ q r. f.0 q)) (λ f. inr (f.0, k, f.1)) (offered_at two (transfer net d) d c (omega (arith, long, length_passed_on net a t work d)))))
        (λ (k : none ≤ m). rw (le-ltb m none k) (inl (refl, λ q r. omega arith)))
        (by_lt m none)

    module _ (c : ℕ) (l : c < net.connections) (u : c ≡ d → ⊥) where
      abbrev v : ℕ
      v = get_or three c none

      -- what the offer along the waiting arc leaves
      two_at : ((c ≡ waiting net d → ⊥) × (get_or two c none ≡ get_or work c none)) ⊎ ((c ≡ waiting net d) × (get_or two c none ≡ min (get_or work c none) b))
      unfolding passed_on
      two_at = rw (get_or-set_other one d c m none u) (offered_at work (waiting net d) b c (omega (arith, long)))

      -- where an entry comes from
      two_source : (x : ℕ) → x ≡ get_or two c none → Source work d c x
      two_source x e =
          ⊎_elim
          (λ f. inl (e ∙ f.1))
          (λ f. ⊎_elim (λ (k : b < get_or work c none). inr (inl (f.0, omega (arith, f.1)))) (λ (k : get_or work c none ≤ b). inl (omega (arith, f.1))) (by_lt b (get_or work c none)))
          two_at

      three_source : Source work d c v
      three_source =
          ⊎_elim
          (λ f. two_source v f.0)
          (λ f. ⊎_elim (λ (k : d < get_or two c none). inr (inr (f.0, f.1, omega (arith, f.2)))) (λ (k : get_or two c none ≤ d). two_source v (omega (arith, f.2))) (by_lt d (get_or two c none)))
          (three_at c l)

      -- the second offer raises nothing
      at_most : v ≤ get_or two c none
      at_most = ⊎_elim (λ f. omega (arith, f.0)) (λ f. omega (arith, f.2)) (three_at c l)

    -- the visit as the code makes it is such a turn, where no transfer arc leads back to d
    pub visited_leaves : d < net.connections → (d ≡ transfer net d → ⊥) → Leaves work d (visited net a t work d)
    unfolding passed_on
    visited_leaves h away =
        record {
          kept = length_visited net a t work d;
          here =
              ⊎_elim (λ f. f.0 ∙ get_or-set_same one d m none (omega (arith, length_offered work (waiting net d) b, long))) (λ f. absurd (away f.0)) (three_at d h);
          no_more = λ c l u. ⊎_elim (λ f. omega (arith, at_most c l u, f.1)) (λ f. omega (arith, at_most c l u, f.1)) (two_at c l u);
          waited = λ l u. ⊎_elim (λ f. absurd (f.0 refl)) (λ f. omega (arith, at_most (waiting net d) l u, f.1)) (two_at (waiting net d) l u);
          moved = λ l u k. ⊎_elim (λ f. absurd (f.1 refl k)) (λ f. omega (arith, f.2)) (three_at (transfer net d) l);
          source = three_source;
        }

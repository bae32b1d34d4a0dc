-- Following predecessors: those of an enquiry lead to an end, how long a journey is, and how it is written from its end.
-- Assumes nothing.
use Rattle.std.proofs.Common.{◌≡◌, ℕ, zero, suc, ◌-◌, ◌<◌, ◌≤◌, Bool, true, false, cond, eqb, List, [], ◌∷◌, ◌++◌, reverse, length, get_or, drop, set, sym, refl, ap, ◌∙◌, ⊎_elim, arith, drop-cons, get_or-set_same, drop-set-lt, lt-length-set, eq-eqb, ne_eqb}
use mathlib.Core.List.{reverse_aux, reverse_aux-eq}
use Rattle.model.specs.Least.{none}
use Rattle.model.specs.Network.{Network, Sound}
use Rattle.model.specs.Predecessors.{predecessors, follow}
use Rattle.model.proofs.Lists.{inside}
use Rattle.model.proofs.ByCases.{by_eq}
use Rattle.model.proofs.Rank.{rank_below}
use Rattle.model.proofs.Rounds.{length_predecessors}
use Rattle.model.proofs.Journeys.{pred, place, Entry, itself, lowest, nothing, entry, later_place}
use Rattle.trails.specs.Trail.{Rooted, Trail}

follow_none : (w : List ℕ) (c : ℕ) → follow w 0 c ≡ []
unfolding follow
follow_none w c = refl

-- a step of follow
follow_step : (w : List ℕ) (k c : ℕ) → follow w (suc k) c ≡ c ∷ cond (eqb (get_or w c none) c) [] (follow w k (get_or w c none))
unfolding follow
follow_step w k c = go (eqb (get_or w c none) c)
  where
    go : (p : Bool) → c ∷ elim p [ true ↦ [] | false ↦ follow w k (get_or w c none) ] ≡ c ∷ cond p [] (follow w k (get_or w c none))
    go true = refl
    go false = refl

module _ (net : Network) (a t : ℕ) (sound : Sound net) where
  abbrev W : List ℕ
  W = predecessors net a t

  abbrev n : ℕ
  n = net.connections

  -- more steps than the place change nothing
  enough : (k c : ℕ) → c < n → pred net a t c < none → place net a t c < k → follow W k c ≡ follow W (suc k) c
  enough zero c h r l = absurd (omega arith)
  enough (suc k) c h r l = follow_step W k c ∙ (go (enough k) (entry net a t sound c h) ∙ sym (follow_step W (suc k) c))
    where
      go : ((e : ℕ) → e < n → pred net a t e < none → place net a t e < k → follow W k e ≡ follow W (suc k) e)
          → Entry net a t c (pred net a t c)
          → c ∷ cond (eqb (pred net a t c) c) [] (follow W k (pred net a t c)) ≡ c ∷ cond (eqb (pred net a t c) c) [] (follow W (suc k) (pred net a t c))
      go ih (itself f q) = rw (eq-eqb (pred net a t c) c q)
      go ih (lowest f b m) =
          ap (λ x. c ∷ cond (eqb (pred net a t c) c) [] x) (ih (pred net a t c) b.0 b.1 (omega (arith, later_place net a t sound h b)))
      go ih (nothing f w q) = absurd (omega arith)

  next_entry : (c : ℕ) → c < n → pred net a t c < none → (pred net a t c < n) × (pred net a t (pred net a t c) < none)
  next_entry c h r = go (entry net a t sound c h)
    where
      go : Entry net a t c (pred net a t c) → (pred net a t c < n) × (pred net a t (pred net a t c) < none)
      go (itself f q) = rw q (h, omega arith)
      go (lowest f b m) = (b.0, b.1)
      go (nothing f w q) = absurd (omega arith)

  -- the predecessors of an enquiry can be followed
  pub rooted : Rooted (predecessors net a t)
  rooted =
      record {
        within = λ c l r. omega (arith, length_predecessors net a t, (next_entry c (omega (arith, length_predecessors net a t)) r).0);
        onward = λ c l r. (next_entry c (omega (arith, length_predecessors net a t)) r).1;
        ended = λ c l r.
            let h : c < n = omega (arith, length_predecessors net a t) in
            rw (length_predecessors net a t) (enough n c h r (rank_below net.departure n c h) ∙ follow_step W n c);
      }

-- a journey has at most as many connections as steps were made
pub length_follow : (w : List ℕ) (k c : ℕ) → length (follow w k c) ≤ k
length_follow w zero c = rw (follow_none w c) (omega arith)
length_follow w (suc k) c = rw (follow_step w k c) (go (eqb (get_or w c none) c) (length_follow w k (get_or w c none)))
  where
    go : (p : Bool) → length (follow w k (get_or w c none)) ≤ k → length (c ∷ cond p [] (follow w k (get_or w c none))) ≤ suc k
    go true h = omega arith
    go false h = omega arith

-- as many steps as the journey is long give the journey
pub follow_exact : (w : List ℕ) (n c : ℕ) → follow w (length (follow w n c)) c ≡ follow w n c
follow_exact w zero c = rw (follow_none w c) (follow_none w c)
follow_exact w (suc n) c =
    rw (follow_step w n c) (follow_step w _ c ∙ go (eqb (get_or w c none) c) (follow_exact w n (get_or w c none)))
  where
    go : (p : Bool) → follow w (length (follow w n (get_or w c none))) (get_or w c none) ≡ follow w n (get_or w c none)
        → c ∷ cond p [] (follow w (length (cond p [] (follow w n (get_or w c none)))) (get_or w c none)) ≡ c ∷ cond p [] (follow w n (get_or w c none))
    go true h = refl
    go false h = ap (λ x. c ∷ x) h

-- a step of the code along predecessors
module _ (w : List ℕ) (c : ℕ) (r : Trail w c) where
  same_entry : get_or w c none ≡ get_or w c 0
  same_entry = inside w c none 0 r.numbered

  -- it leads on
  pub step_on : Trail w (get_or w c 0)
  step_on =
      record {
        rooted = r.rooted;
        numbered = rw same_entry at (r.rooted.within c r.numbered r.reached);
        reached = rw same_entry at (r.rooted.onward c r.numbered r.reached);
      }

  -- before another there is one more
  pub step_more : (get_or w c 0 ≡ c → ⊥) → length (follow w (length w) c) ≡ suc (length (follow w (length w) (get_or w c 0)))
  step_more u =
      rw (r.rooted.ended c r.numbered r.reached, ne_eqb (get_or w c none) c (λ q. u (sym same_entry ∙ q)), same_entry)

  -- the front of what is left, where as many are left as steps are
  step_front : (i : ℕ) → length (follow w (suc i) c) ≡ suc i → follow w (suc i) c ≡ c ∷ follow w i (get_or w c 0)
  step_front i l =
      ⊎_elim
      (λ q.
      let e : follow w (suc i) c ≡ c ∷ [] = follow_step w i c ∙ rw (eq-eqb (get_or w c none) c q) in
      let z : i ≡ 0 = omega (arith, l, ap length e) in
      e ∙ rw (z, follow_none))
      (λ u. follow_step w i c ∙ rw (ne_eqb (get_or w c none) c u, same_entry))
      (by_eq (get_or w c none) c)

  write_at : (i : ℕ) (j : List ℕ) → i < length j → length (follow w (suc i) c) ≡ suc i
      → (length (follow w i (get_or w c 0)) ≡ i) × (reverse_aux (follow w i (get_or w c 0)) (drop i (set j i c)) ≡ reverse_aux (follow w (suc i) c) (drop (suc i) j))
  write_at i j m l =
      let e = step_front i l in
      let x : drop i (set j i c) ≡ c ∷ drop (suc i) j =
      drop-cons (set j i c) i 0 (lt-length-set j i c m) ∙ rw (get_or-set_same j i c 0 m, drop-set-lt (suc i) j i c (omega arith)) in
      (omega (arith, l, ap length e), rw (e, x))

  -- the turn of a loop that writes what is left from its end
  pub write_step : (i : ℕ) (j : List ℕ) → 0 < i → i ≤ length j → length (follow w i c) ≡ i
      → (length (follow w (i - 1) (get_or w c 0)) ≡ i - 1) × (reverse_aux (follow w (i - 1) (get_or w c 0)) (drop (i - 1) (set j (i - 1) c)) ≡ reverse_aux (follow w i c) (drop i j))
  write_step zero j p m l = absurd (omega arith)
  write_step (suc i) j p m l = let q : suc i - 1 ≡ i = omega arith in rw q (write_at i j m l)

-- after its last turn
pub write_done : (w : List ℕ) (c : ℕ) (j x y : List ℕ) → reverse_aux (follow w 0 c) (drop 0 j) ≡ reverse_aux x y → j ≡ reverse x ++ y
unfolding follow
write_done w c j x y e = e ∙ reverse_aux-eq x y

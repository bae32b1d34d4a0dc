-- What predecessors mean: which connections end a valid journey, that following them gives one, that it is the answer to an
-- enquiry, and that there is no other. Assumes nothing.
use Rattle.std.proofs.Common.{◌≡◌, ℕ, zero, suc, ◌<◌, ◌≤◌, true, false, not, ◌&&◌, eqb, ◌↔◌, List, [], ◌∷◌, length, get_or, sym, refl, ap, ◌∙◌, ⊎_elim, true≢false, arith, ltb-true, lt-ltb, eq-eqb, ne_eqb, eqb-true}
use mathlib.Core.Bool.{false≢true}
use lib.ListN.{get_or-eq_default}
use borrow.Author.Tests.{not-true}
use Rattle.model.specs.Least.{none, key, Found, Least, rank}
use Rattle.model.specs.Network.{Network, Sound}
use Rattle.model.specs.Journeys.{can_be_first, can_follow, Ends, first, next, Valid, stay, travel, arrives, NotAfter, stops, lower, beyond, Best, Unreachable}
use Rattle.model.specs.Predecessors.{reached_in, choose, predecessors, follow, arriving, last_to, nowhere, journey_in, Predecessor, own, before, unreached}
use Rattle.model.proofs.ByCases.{by_lt, by_eq, by_bool, and_left, and_right, and_both}
use Rattle.model.proofs.Least.{least_is}
use Rattle.model.proofs.Rank.{rank_below, rank_early}
use Rattle.model.proofs.Follows.{first_means, follows_later}
use Rattle.model.proofs.Rounds.{predecessor_is, length_predecessors, numbered}

-- the same of lists that are the two exchanged
not_after_pair : {xs ys us vs : List ℕ} → NotAfter xs ys → NotAfter us vs → us ≡ ys → vs ≡ xs → xs ≡ ys
not_after_pair stops stops p q = p
not_after_pair stops (lower k) p q = cc
not_after_pair stops (beyond k) p q = cc
not_after_pair (lower h) stops p q = cc
not_after_pair (lower {x = x} {y = y} h) (lower {x = u} {y = v} k) p q = let e : u ≡ y = cc in let f : v ≡ x = cc in absurd (omega arith)
not_after_pair (lower {x = x} {y = y} h) (beyond {x = u} k) p q = let e : u ≡ y = cc in let f : u ≡ x = cc in absurd (omega arith)
not_after_pair (beyond h) stops p q = cc
not_after_pair (beyond {x = x} h) (lower {x = u} {y = v} k) p q = let e : u ≡ x = cc in let f : v ≡ x = cc in absurd (omega arith)
not_after_pair (beyond {x = x} {xs = xs} {ys = ys} h) (beyond {x = u} {xs = us} {ys = vs} k) p q =
    let e : us ≡ ys = cc in
    let f : vs ≡ xs = cc in
    ap (λ (l : List ℕ). x ∷ l) (not_after_pair h k e f)

-- two lists of which neither comes after the other are one
pub not_after_both : {xs ys : List ℕ} → NotAfter xs ys → NotAfter ys xs → xs ≡ ys
not_after_both h k = not_after_pair h k refl refl

-- what follow gives begins with the connection that it starts from
pub follow_begins : (w : List ℕ) (k c : ℕ) → 0 < k → (rest : List ℕ) × (follow w k c ≡ c ∷ rest)
unfolding follow
follow_begins w zero c h = absurd (omega arith)
follow_begins w (suc k) c h = (_, refl)

module _ (net : Network) (w : List ℕ) (a b : ℕ) where
  -- the journey from a stop to itself is empty
  pub journey_here : a ≡ b → journey_in net w a b ≡ []
  unfolding journey_in
  journey_here q = rw (eq-eqb a b q, journey_in) refl

  -- from a stop to another it follows the predecessors from the last connection
  pub journey_there : (a ≡ b → ⊥) → journey_in net w a b ≡ follow w net.connections (last_to net w b)
  unfolding journey_in
  journey_there u = rw (ne_eqb a b u, journey_in) refl

module _ (net : Network) (a t : ℕ) where
  abbrev W : List ℕ
  W = predecessors net a t

  -- the entry of a connection
  abbrev pub pred : ℕ → ℕ
  pred c = get_or (predecessors net a t) c none

  -- a connection's place in the order by departure, then number
  abbrev pub place : ℕ → ℕ
  place c = rank net.departure net.connections c

  -- e has a predecessor and can stand before c
  abbrev pub Before : ℕ → ℕ → Type 0
  Before c e = (e < net.connections) × (pred e < none) × (can_follow net e c ≡ true)

  -- an entry as the rule chooses it by the entries
  pub data Entry (c : ℕ) : ℕ → Type 0 where
    itself : {p : ℕ} → can_be_first net a t c ≡ true → p ≡ c → Entry c p
    lowest : {p : ℕ} → can_be_first net a t c ≡ false → Before c p → ((e : ℕ) → Before c e → p ≤ e) → Entry c p
    nothing : {p : ℕ} → can_be_first net a t c ≡ false → ((e : ℕ) → Before c e → ⊥) → p ≡ none → Entry c p

  -- the last connection of a journey is one of the network's
  pub in_range : {c : ℕ} {js : List ℕ} → Ends net a t (c ∷ js) → c < net.connections
  in_range (first h f) = h
  in_range (next h f r) = h

  module _ (sound : Sound net) where
    tested : (c e : ℕ) → Before c e → reached_in W e && can_follow net e c ≡ true
    tested c e b = and_both _ _ (lt-ltb _ _ b.1) b.2

    -- each entry is as the rule chooses it
    pub entry : (c : ℕ) → c < net.connections → Entry c (pred c)
    unfolding choose
    entry c h =
        rw (predecessor_is net a t sound c h)
        (⊎_elim
        (λ f. rw f (itself f refl))
        (λ f. rw f
        (⊎_elim
        (λ l. nothing f (λ e b. l.1 e b.0 (tested c e b)) l.0)
        (λ r. lowest f
        (r.below, ltb-true _ _ (and_left (reached_in W _) (can_follow net _ c) r.passes), and_right (reached_in W _) (can_follow net _ c) r.passes)
        (λ e b. omega (arith, r.least e b.0 (tested c e b))))
        (least_is (λ e. reached_in W e && can_follow net e c) (λ e. 0) net.connections (numbered sound))))
        (by_bool (can_be_first net a t c)))

    -- a connection that ends a valid journey has a predecessor
    pub reached : {c : ℕ} {js : List ℕ} → Ends net a t (c ∷ js) → pred c < none
    reached (first {c} h f) = go (entry c h)
      where
        go : Entry c (pred c) → pred c < none
        go (itself g q) = omega (arith, sound.few)
        go (lowest g b l) = omega (arith, b.0, sound.few)
        go (nothing g w q) = absurd (true≢false (sym f ∙ g))
    reached (next {c} {e} h f r) = go (reached r) (entry c h)
      where
        go : pred e < none → Entry c (pred c) → pred c < none
        go i (itself g q) = omega (arith, sound.few)
        go i (lowest g b l) = omega (arith, b.0, sound.few)
        go i (nothing g w q) = absurd (w e (in_range r, i, f))

    -- what can stand before c has a lower place
    pub later_place : {e c : ℕ} → c < net.connections → Before c e → place e < place c
    later_place {e} {c} h b =
        rank_early net.departure net.connections (numbered sound) e c b.0 (follows_later net sound e c b.0 h b.2)

    below : (c : ℕ) → c < net.connections → place c < net.connections
    below c h = rank_below net.departure net.connections c h

    other : (e c : ℕ) → c < net.connections → Before c e → e ≡ c → ⊥
    other e c h b q = omega (arith, later_place h b, ap (rank net.departure net.connections) q)

    -- one connection more at the end of what follow gives
    longer : (k c p : ℕ) → c < net.connections → can_follow net p c ≡ true → place p < k → Ends net a t (follow W k p) → Ends net a t (c ∷ follow W k p)
    unfolding follow
    longer zero c p h f l r = absurd (omega arith)
    longer (suc k) c p h f l r = next h f r

    -- following predecessors gives a valid journey
    pub valid : (k c : ℕ) → c < net.connections → place c < k → pred c < none → Ends net a t (follow W k c)
    unfolding follow
    valid zero c h l r = absurd (omega arith)
    valid (suc k) c h l r = go (valid k) (entry c h)
      where
        go : ((e : ℕ) → e < net.connections → place e < k → pred e < none → Ends net a t (follow W k e)) → Entry c (pred c) → Ends net a t (follow W (suc k) c)
        go ih (itself g q) = rw (eq-eqb (pred c) c q) (first h g)
        go ih (lowest g b m) =
            let p : place (pred c) < k = omega (arith, later_place h b) in
            rw (ne_eqb (pred c) c (other (pred c) c h b)) (longer k c (pred c) h b.2 p (ih (pred c) b.0 p b.1))
        go ih (nothing g w q) = absurd (omega arith)

    -- an entry other than none is a connection's
    reached_range : (c : ℕ) → pred c < none → c < net.connections
    reached_range c h =
        ⊎_elim (λ l. l) (λ (l : net.connections ≤ c). absurd (omega (arith, get_or-eq_default W none {n = c} (rw (length_predecessors net a t) l)))) (by_lt c net.connections)

    -- the meaning of none: a connection has a predecessor exactly if a valid journey ends with it
    pub reached_iff : (c : ℕ) → pred c < none ↔ ((js : List ℕ) × Ends net a t (c ∷ js))
    reached_iff c = (
      λ h.
          let l : c < net.connections = reached_range c h in
          let f = follow_begins W net.connections c (omega arith) in
          (f.0, rw f.1 at (valid net.connections c l (below c l) h)),
      λ j. reached j.1,
    )

    -- an entry is what document 01 says
    pub predecessor_means : (c : ℕ) → c < net.connections → Predecessor net a t c (get_or (predecessors net a t) c none)
    predecessor_means c h = go (entry c h)
      where
        go : Entry c (pred c) → Predecessor net a t c (pred c)
        go (itself f q) = own f q
        go (lowest f b l) = before f ((reached_iff (pred c)).0 b.1, b.2) (λ e w. l e (in_range w.0.1, reached w.0.1, w.1))
        go (nothing f w q) = unreached (λ js v. omega (arith, reached v)) q

    -- a lower last connection comes first
    sooner : (k p e : ℕ) {js : List ℕ} → place p < k → p < e → NotAfter (follow W k p) (e ∷ js)
    unfolding follow
    sooner zero p e l m = absurd (omega arith)
    sooner (suc k) p e l m = lower m

    no_later : (k p e : ℕ) {js : List ℕ} → place p < k → p ≤ e → NotAfter (follow W k e) (e ∷ js) → NotAfter (follow W k p) (e ∷ js)
    no_later k p e l m n =
        ⊎_elim (λ s. sooner k p e l s) (λ (s : e ≤ p). let q : p ≡ e = omega arith in rw q n) (by_lt p e)

    -- and it is the first in the order of the valid ones that end with the same connection
    pub first_in_order : (k c : ℕ) {js : List ℕ} → place c < k → Ends net a t (c ∷ js) → NotAfter (follow W k c) (c ∷ js)
    unfolding follow
    first_in_order zero c l v = absurd (omega arith)
    first_in_order (suc k) c l (first h f) = go (entry c h)
      where
        go : Entry c (pred c) → NotAfter (follow W (suc k) c) (c ∷ [])
        go (itself g q) = rw (eq-eqb (pred c) c q) (beyond stops)
        go (lowest g b m) = absurd (true≢false (sym f ∙ g))
        go (nothing g w q) = absurd (true≢false (sym f ∙ g))
    first_in_order (suc k) c l (next {e = e} {js = js} h f r) = go (λ i. first_in_order k e i r) (entry c h)
      where
        go : (place e < k → NotAfter (follow W k e) (e ∷ js)) → Entry c (pred c) → NotAfter (follow W (suc k) c) (c ∷ e ∷ js)
        go ih (itself g q) = rw (eq-eqb (pred c) c q) (beyond stops)
        go ih (nothing g w q) = absurd (w e (in_range r, reached r, f))
        go ih (lowest g b m) =
            let i : place e < k = omega (arith, later_place h (in_range r, reached r, f)) in
            rw (ne_eqb (pred c) c (other (pred c) c h b))
            (beyond (no_later k (pred c) e (omega (arith, later_place h b)) (m e (in_range r, reached r, f)) (ih i)))

    -- departures fall when a journey is read from its end
    pub falls : {c e : ℕ} {js : List ℕ} → Ends net a t (c ∷ e ∷ js) → net.departure e < net.departure c
    falls (next {c} {e} h f r) = follows_later net sound e c (in_range r) h f

    -- so a journey ending with c has at most as many connections before it as c's place
    shorter : {c : ℕ} {js : List ℕ} → Ends net a t (c ∷ js) → length js ≤ place c
    shorter (first h f) = omega arith
    shorter (next {c} {e} h f r) = omega (arith, shorter r, later_place h (in_range r, reached r, f))

    -- no journey has more connections than there are
    pub at_most : {js : List ℕ} → Ends net a t js → length js ≤ net.connections
    at_most (first {c} h f) = omega arith
    at_most (next {c} {e} h f r) = omega (arith, shorter (next h f r), below c h)

    -- its last connection does not leave before t
    pub not_before : {c : ℕ} {js : List ℕ} → Ends net a t (c ∷ js) → t ≤ net.departure c
    not_before (first {c} h f) = (first_means net a t c f).1
    not_before (next {c} {e} h f r) = omega (arith, not_before r, falls (next h f r))

    -- so a journey that is not empty arrives after t
    pub after_start : {c : ℕ} {js : List ℕ} → Ends net a t (c ∷ js) → t < net.arrival c
    after_start {c} v = omega (arith, not_before v, sound.forward c (in_range v))

  -- the answer to an enquiry is the only one
  pub best_only : {b : ℕ} {js ks : List ℕ} → Best net a b t js → Best net a b t ks → js ≡ ks
  best_only {b} {js} {ks} p q =
      let e : arrives net t js ≡ arrives net t ks = omega (arith, p.earliest q.valid, q.earliest p.valid) in
      not_after_both (p.foremost q.valid (sym e)) (q.foremost p.valid e)

  module _ (sound : Sound net) (b : ℕ) where
    -- the last connection of the answer
    abbrev pub last : ℕ
    last = last_to net (predecessors net a t) b

    -- it is there: the first by arrival, then number, that ends a valid journey and arrives at b
    abbrev Reaches : Type 0
    Reaches = Found (arriving net W b) net.arrival net.connections last

    last_is : Least (arriving net W b) net.arrival net.connections last
    unfolding last_to
    last_is = least_is (arriving net W b) net.arrival net.connections (numbered sound)

    tested_last : {c : ℕ} {ks : List ℕ} → Ends net a t (c ∷ ks) → net.to c ≡ b → arriving net W b c ≡ true
    unfolding arriving
    tested_last v q = and_both _ _ (lt-ltb _ _ (reached sound v)) (eq-eqb _ _ q)

    found_reached : Reaches → pred last < none
    unfolding arriving
    found_reached r = ltb-true _ _ (and_left (reached_in W last) (eqb (net.to last) b) r.passes)

    found_there : Reaches → net.to last ≡ b
    unfolding arriving
    found_there r = eqb-true _ _ (and_right (reached_in W last) (eqb (net.to last) b) r.passes)

    -- a last connection other than none is one that ends a valid journey
    pub last_reached : last < none → (last < net.connections) × (pred last < none)
    last_reached h = ⊎_elim (λ l. absurd (omega (arith, l.0))) (λ r. (r.below, found_reached r)) last_is

    nearest : Reaches → {c : ℕ} {ks : List ℕ} → Ends net a t (c ∷ ks) → net.to c ≡ b → key net.arrival last ≤ key net.arrival c
    nearest r {c} v q = r.least c (in_range v) (tested_last v q)

    -- between two stops: without a last connection there is no journey
    none_unreachable : (a ≡ b → ⊥) → last ≡ none → Unreachable net a b t
    none_unreachable u q js (stay p) = u p
    none_unreachable u q js (travel {c} v p) =
        ⊎_elim (λ l. l.1 c (in_range v) (tested_last v p)) (λ r. omega (arith, r.below, sound.few)) last_is

    -- between two stops: following predecessors from the last connection gives the answer
    module _ (u : a ≡ b → ⊥) (r : Reaches) where
      found_earliest : {ks : List ℕ} → Valid net a b t ks → net.arrival last ≤ arrives net t ks
      found_earliest (stay p) = absurd (u p)
      found_earliest (travel {c} v p) = omega (arith, nearest r v p, in_range v, sound.few)

      found_foremost : {ks : List ℕ} → Valid net a b t ks → arrives net t ks ≡ net.arrival last → NotAfter (follow W net.connections last) ks
      found_foremost (stay p) s = absurd (u p)
      found_foremost (travel {c} v p) s =
          no_later sound net.connections last c (below sound last r.below) (omega (arith, nearest r v p)) (first_in_order sound net.connections c (below sound c (in_range v)) v)

      found_best : Best net a b t (follow W net.connections last)
      found_best =
          let f = follow_begins W net.connections last (omega (arith, r.below)) in
          rw f.1
          (record {
            valid = travel (rw f.1 at (valid sound net.connections last r.below (below sound last r.below) (found_reached r))) (found_there r);
            earliest = found_earliest;
            foremost = λ v s. rw f.1 at (found_foremost v s);
          })

    -- at one stop the empty journey is the answer
    stay_best : a ≡ b → Best net a b t []
    stay_best q = record { valid = stay q; earliest = earlier; foremost = λ v e. stops }
      where
        earlier : {ks : List ℕ} → Valid net a b t ks → t ≤ arrives net t ks
        earlier (stay p) = omega arith
        earlier (travel v p) = omega (arith, after_start sound v)

    -- the predecessors lead nowhere exactly if there is no valid journey
    pub nowhere_iff : nowhere net (predecessors net a t) a b ≡ true ↔ Unreachable net a b t
    unfolding nowhere
    nowhere_iff = (
      λ h. none_unreachable (λ q. false≢true (sym (not-true _ (and_left (not (eqb a b)) (eqb last none) h)) ∙ eq-eqb a b q)) (eqb-true _ _ (and_right (not (eqb a b)) (eqb last none) h)),
      λ u.
          let apart : a ≡ b → ⊥ = λ q. u [] (stay q) in
          and_both (not (eqb a b)) (eqb last none)
          (rw (ne_eqb a b apart))
          (eq-eqb _ _ (⊎_elim (λ l. l.0) (λ r. absurd (u _ (found_best apart r).valid)) last_is)),
    )

    -- and where they lead, the journey by them is the answer
    pub journey_best : nowhere net (predecessors net a t) a b ≡ false → Best net a b t (journey_in net (predecessors net a t) a b)
    unfolding nowhere
    journey_best h =
        ⊎_elim
        (λ q. rw (journey_here net W a b q) (stay_best q))
        (λ u. rw (journey_there net W a b u)
        (⊎_elim (λ l. absurd (true≢false (sym (rw (ne_eqb a b u) (eq-eqb last none l.0)) ∙ h))) (λ r. found_best u r) last_is))
        (by_eq a b)

    -- a valid journey has at most as many connections as there are
    pub valid_short : {js : List ℕ} → Valid net a b t js → length js ≤ net.connections
    valid_short (stay q) = omega arith
    valid_short (travel v q) = at_most sound v

    -- so has the answer
    pub journey_short : nowhere net (predecessors net a t) a b ≡ false → length (journey_in net (predecessors net a t) a b) ≤ net.connections
    journey_short h = valid_short (journey_best h).valid

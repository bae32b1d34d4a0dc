-- The invariant of the pass over the connections, and that a turn keeps it. Assumes nothing.
-- Before the turn at place i a connection whose place is below i has its entry. Any other, c, has collected the lowest of
-- those that have been offered to it: what it has is reached and one can change from it to c; and it is no higher than any e
-- visited before, reached and with a change to c, unless a connection still to be visited lies between (it leaves the stop
-- before c and one could change to it from e): that one holds e's number and will pass it on when its turn comes.
use Rattle.std.proofs.Common.{◌≡◌, ℕ, suc, ◌+◌, ◌-◌, ◌<◌, ◌≤◌, min, Bool, true, false, cond, ◌&&◌, List, length, get_or, sym, ap, ◌∙◌, ⊎_elim, true≢false, add-one, arith, ext_get_or, ltb-true, lt-ltb}
use Rattle.model.specs.Least.{none, key}
use Rattle.model.specs.Network.{Network, Sound}
use Rattle.model.specs.Graph.{board, ready, waiting, transfer}
use Rattle.model.specs.Journeys.{can_be_first, can_follow}
use Rattle.model.specs.Predecessors.{reached_in, predecessors}
use Rattle.model.specs.Order.{Slot}
use Rattle.model.proofs.ByCases.{by_lt, by_eq, by_last, by_bool, and_left, and_right, and_both}
use Rattle.model.proofs.Follows.{Aboard, Change, follow_means, change_follows, aboard_follows, keeps_stop, follows_later}
use Rattle.model.proofs.Boards.{change_on, on_change, Behind, waiting_listed, transfer_listed, entry_holds, entry_first}
use Rattle.model.proofs.Rounds.{length_predecessors, numbered}
use Rattle.model.proofs.Journeys.{pred, Before, Entry, itself, lowest, nothing, entry}
use Rattle.settling.specs.Settled.{settled}
use Rattle.visits.specs.Visits.{visited, turned}
use Rattle.model.proofs.PlaceOrder.{Rises, place_early, place_order, place_le, place_same}
use Rattle.settling.proofs.Steps.{aboard_positive}
use Rattle.visits.proofs.Steps.{turn_visits, turn_skips}
use Rattle.predecessors.proofs.Visited.{Leaves, visited_leaves}

module _ (net : Network) (a t : ℕ) (place : ℕ → ℕ) where
  abbrev n : ℕ
  n = net.connections

  -- no connection that could take e's number to c is still to be visited at place i
  abbrev pub Clear : ℕ → ℕ → ℕ → Type 0
  Clear i e c =
      (d : ℕ) → d < net.connections → board net d ≡ board net c → ready net e (board net d) ≤ net.departure d → place d < place c → place d < i

  -- e is a connection that ends a valid journey, and one can change from it to c
  abbrev pub Offer : ℕ → ℕ → Type 0
  Offer c e = (e < net.connections) × (pred net a t e < none) × Change net e c

  -- the work area before the turn at place i
  pub record Swept (i : ℕ) (work : List ℕ) : Type 0 where
    pub long : length work ≡ net.connections
    pub bounded : (c : ℕ) → c < net.connections → get_or work c none ≤ none
    pub past : (c : ℕ) → c < net.connections → place c < i → get_or work c none ≡ pred net a t c
    pub offers : (c : ℕ) → c < net.connections → i ≤ place c → get_or work c none < none → Offer c (get_or work c none)
    pub collected : (c e : ℕ) → c < net.connections → i ≤ place c → place e < i → Offer c e → Clear i e c → get_or work c none ≤ e

  -- a place that is no connection's
  swept_skip : (i : ℕ) (work : List ℕ) → ((c : ℕ) → c < n → place c ≡ i → ⊥) → Swept i work → Swept (suc i) work
  swept_skip i work empty s =
      record {
        long = s.long;
        bounded = s.bounded;
        past = λ c l r. ⊎_elim (λ k. s.past c l k) (λ q. absurd (empty c l q)) (by_last r);
        offers = λ c l r. s.offers c l (omega arith);
        collected = λ c e l r q o z.
            ⊎_elim
            (λ v. s.collected c e l (omega arith) v o (λ d k f g p. ⊎_elim (λ w. w) (λ w. absurd (empty d k w)) (by_last (z d k f g p))))
            (λ v. absurd (empty e o.0 v))
            (by_last q);
      }

  -- the end: each connection has its entry
  pub swept_all : (m : ℕ) (work : List ℕ) → ((c : ℕ) → c < net.connections → place c < m) → Swept m work → work ≡ predecessors net a t
  swept_all m work within s =
      ext_get_or none work (predecessors net a t) (s.long ∙ sym (length_predecessors net a t)) (λ c l. let k : c < n = omega (arith, s.long) in s.past c k (within c k))

  module _ (sound : Sound net) (rises : Rises net.departure net.connections place) where
    few : net.connections ≤ none
    few = numbered sound

    -- what can stand before c has a lower place
    before : (e c : ℕ) → e < n → c < n → can_follow net e c ≡ true → place e < place c
    before e c k l f = place_early net.departure n place few rises e c k l (follows_later net sound e c k l f)

    -- a place is one connection's
    same : (e c : ℕ) → e < n → c < n → place e ≡ place c → e ≡ c
    same = place_same net.departure n place few rises

    -- the turn at place i, which is that of d
    module _ (i : ℕ) (work : List ℕ) (d : ℕ) (h : d < n) (here : place d ≡ i) (s : Swept i work) where
      abbrev b : ℕ
      b = get_or work d none

      -- nothing is between: all that can be changed from to d has been collected
      all_collected : (e : ℕ) → Offer d e → b ≤ e
      all_collected e o =
          s.collected d e h (omega arith) (omega (arith, before e d o.0 h (change_follows net e d o.2))) o (λ x l f g p. omega arith)

      -- the trip's connection before d, if d stays aboard
      stays : Bool
      stays = net.stays_aboard d && reached_in work (d - 1)

      module _ (on : net.stays_aboard d ≡ true) where
        not_first : d ≡ suc (d - 1)
        not_first = omega (arith, aboard_positive net d sound on)

        joined : can_follow net (d - 1) d ≡ true
        joined = aboard_follows net (d - 1) d (keeps_stop net sound (d - 1) d h (on, not_first)) (on, not_first)

        known : get_or work (d - 1) none ≡ pred net a t (d - 1)
        known =
            let l : d - 1 < n = omega (arith, not_first) in
            s.past (d - 1) l (omega (arith, before (d - 1) d l h joined))

      -- the lower of what has been collected and the one before, if d can stay aboard
      low : ℕ
      low = cond stays (min b (d - 1)) b

      low_bound : low ≤ b
      unfolding low
      low_bound = ⊎_elim (λ f. rw f (omega arith)) (λ f. rw f (omega arith)) (by_bool stays)

      collected_before : b < none → Before net a t d b
      collected_before l = let o = s.offers d h (omega arith) l in (o.0, o.1, change_follows net b d o.2)

      low_before : low < none → Before net a t d low
      unfolding low stays
      low_before =
          ⊎_elim
          (λ f.
          let on : net.stays_aboard d ≡ true = and_left (net.stays_aboard d) (reached_in work (d - 1)) f in
          let r : get_or work (d - 1) none < none = ltb-true _ _ (and_right (net.stays_aboard d) (reached_in work (d - 1)) f) in
          rw f
          (⊎_elim
          (λ (l : b < d - 1) m. let q : min b (d - 1) ≡ b = omega arith in rw q (collected_before (omega arith)))
          (λ (l : d - 1 ≤ b) m. let q : min b (d - 1) ≡ d - 1 = omega arith in rw q (omega (arith, not_first on), omega (arith, known on), joined on))
          (by_lt b (d - 1))))
          (λ f. rw f collected_before)
          (by_bool stays)

      low_least : (e : ℕ) → Before net a t d e → low ≤ e
      unfolding low stays
      low_least e w =
          let m = follow_means net e d w.2 in
          ⊎_elim
          (λ (on : Aboard net e d).
          let q : d - 1 ≡ e = omega (arith, on.1) in
          let r : reached_in work (d - 1) ≡ true = lt-ltb (get_or work (d - 1) none) none (omega (arith, known on.0, ap (pred net a t) q, w.1)) in
          rw (and_both (net.stays_aboard d) (reached_in work (d - 1)) on.0 r) (omega arith))
          (λ (c : ready net e (board net d) ≤ net.departure d). omega (arith, low_bound, all_collected e (w.0, w.1, (m.0, c))))
          m.1

      -- where d cannot be first that is its predecessor
      low_is : Entry net a t d (pred net a t d) → can_be_first net a t d ≡ false → low ≡ pred net a t d
      low_is (itself f q) g = absurd (true≢false (sym f ∙ g))
      low_is (lowest f w l) g =
          let m : low ≤ pred net a t d = low_least (pred net a t d) w in
          omega (arith, m, l low (low_before (omega (arith, m, w.0, few))))
      low_is (nothing f w q) g =
          ⊎_elim (λ (l : low < none). absurd (w low (low_before l))) (λ (l : none ≤ low). omega (arith, q, low_bound, s.bounded d h)) (by_lt low none)

      -- so is the entry that the visit gives it
      settled_is : settled net a t work d ≡ pred net a t d
      unfolding settled low stays
      settled_is = go (entry net a t sound d h)
        where
          go : Entry net a t d (pred net a t d) → settled net a t work d ≡ pred net a t d
          go (itself f q) = rw f (sym q)
          go (lowest f w l) = rw f (low_is (lowest f w l) f)
          go (nothing f w q) = rw f (low_is (nothing f w q) f)

      pred_bound : pred net a t d ≤ none
      pred_bound = go (entry net a t sound d h)
        where
          go : Entry net a t d (pred net a t d) → pred net a t d ≤ none
          go (itself f q) = omega (arith, few)
          go (lowest f w l) = omega (arith, w.0, few)
          go (nothing f w q) = omega arith

      -- both arcs lead to later places
      waits : waiting net d < n → Behind net d (waiting net d)
      waits k = (entry_holds net sound (waiting_listed net sound d) (omega (arith, few))).1

      after_wait : waiting net d < n → place d < place (waiting net d)
      after_wait k = rises d (waiting net d) h k (waits k).1

      moves : transfer net d < n → Change net d (transfer net d)
      moves k = change_on net d _ (entry_holds net sound (transfer_listed net sound d (net.to d)) (omega (arith, few))).1

      after_move : transfer net d < n → place d < place (transfer net d)
      after_move k = before d (transfer net d) h k (change_follows net d (transfer net d) (moves k))

      away : d ≡ transfer net d → ⊥
      away q = let k : transfer net d < n = omega arith in omega (arith, after_move k, ap place q)

      -- an arc's end that is not before c, with no unvisited connection between, is c
      only : (x c : ℕ) → x < n → c < n → place d < place x → key net.departure x ≤ key net.departure c → (place x < place c → place x < suc i) → x ≡ c
      only x c k l o m z =
          ⊎_elim
          (λ (r : place x < place c). absurd (omega (arith, z r)))
          (λ (r : place c ≤ place x). let p : place x ≤ place c = place_le net.departure n place few rises x c k l m in same x c k l (omega arith))
          (by_lt (place x) (place c))

      module _ (after : List ℕ) (left : Leaves net a t work d after) where
        other : (c : ℕ) → (place c ≡ i → ⊥) → c ≡ d → ⊥
        other c u q = u (ap place q ∙ here)

        -- what is past is left alone
        past_kept : (c : ℕ) → c < n → place c < i → get_or after c none ≡ get_or work c none
        past_kept c l r =
            ⊎_elim
            (λ q. q)
            (λ o.
            ⊎_elim
            (λ w. absurd (omega (arith, after_wait (omega (arith, w.0)), ap place w.0)))
            (λ m. absurd (omega (arith, after_move (omega (arith, m.0)), ap place m.0)))
            o)
            (left.source c l (other c (λ q. omega arith)))

        -- what is offered is still reached and can be changed from
        still_offers : (c : ℕ) → c < n → suc i ≤ place c → get_or after c none < none → Offer c (get_or after c none)
        still_offers c l r v =
            ⊎_elim
            (λ q. rw q (s.offers c l (omega arith) (rw q at v)))
            (λ o.
            ⊎_elim
            (λ w.
            let u = waits (omega (arith, w.0)) in
            let f = s.offers d h (omega arith) (rw w.1 at v) in
            let k : net.departure d ≤ net.departure (waiting net d) = omega (arith, u.1, w.0, few) in
            let g : Change net b c = rw w.0 (u.0 ∙ f.2.0, rw u.0 (omega (arith, f.2.1, k))) in
            rw w.1 (f.0, f.1, g))
            (λ m.
            let g : Change net d c = rw m.0 (moves (omega (arith, m.0))) in
            rw m.2 (h, omega (arith, settled_is, m.1), g))
            o)
            (left.source c l (other c (λ q. omega arith)))

        -- d's own number has come to where it can be changed to, if nothing unvisited is between
        own : (c : ℕ) → c < n → suc i ≤ place c → Offer c d → Clear (suc i) d c → get_or after c none ≤ d
        own c l r o z =
            let m = o.2 in
            let f = entry_first net sound (transfer_listed net sound d (net.to d)) c l (on_change net d c m) in
            let u = moves f.0 in
            let q : transfer net d ≡ c = only (transfer net d) c f.0 l (after_move f.0) f.1 (λ k. z (transfer net d) f.0 (u.0 ∙ sym m.0) u.1 k) in
            rw q at (left.moved f.0 (λ e. away (sym e)) (omega (arith, settled_is, o.1)))

        -- a number that d held has come to the next departure from d's stop
        handed : (c e : ℕ) → c < n → suc i ≤ place c → Offer c e → board net c ≡ board net d → ready net e (board net d) ≤ net.departure d → Clear (suc i) e c → get_or after c none ≤ e
        handed c e l r o f g z =
            let w = entry_first net sound (waiting_listed net sound d) c l (f, place_order net.departure n place few rises d c h l (omega arith)) in
            let u = waits w.0 in
            let p = after_wait w.0 in
            let k : net.departure d ≤ net.departure (waiting net d) = omega (arith, u.1, w.0, few) in
            let q : waiting net d ≡ c = only (waiting net d) c w.0 l p w.1 (λ j. z (waiting net d) w.0 (u.0 ∙ sym f) (rw u.0 (omega (arith, k))) j) in
            let y : get_or after c none ≤ b = rw q at (left.waited w.0 (λ e. omega (arith, ap place e, p))) in
            omega (arith, y, all_collected e (o.0, o.1, (sym f ∙ o.2.0, g)))

        -- where d is not between, what was collected stays
        stayed : (c e : ℕ) → c < n → suc i ≤ place c → place e < i → Offer c e → (board net d ≡ board net c → ready net e (board net d) ≤ net.departure d → ⊥) → Clear (suc i) e c → get_or after c none ≤ e
        stayed c e l r q o out z =
            let y : get_or work c none ≤ e = s.collected c e l (omega arith) q o (λ x j f g p. ⊎_elim (λ v. v) (λ v. let u : x ≡ d = same x d j h (v ∙ sym here) in absurd (out (rw u at f) (rw u at g))) (by_last (z x j f g p))) in
            omega (arith, y, left.no_more c l (other c (λ q. omega arith)))

        -- and it is still the lowest
        still_collected : (c e : ℕ) → c < n → suc i ≤ place c → place e < suc i → Offer c e → Clear (suc i) e c → get_or after c none ≤ e
        still_collected c e l r q o z =
            ⊎_elim
            (λ v.
            ⊎_elim
            (λ f.
            ⊎_elim
            (λ (g : net.departure d < ready net e (board net d)). stayed c e l r v o (λ x y. omega arith) z)
            (λ (g : ready net e (board net d) ≤ net.departure d). handed c e l r o f g z)
            (by_lt (net.departure d) (ready net e (board net d))))
            (λ f. stayed c e l r v o (λ x y. f (sym x)) z)
            (by_eq (board net c) (board net d)))
            (λ v. let u : e ≡ d = same e d o.0 h (v ∙ sym here) in rw u (own c l r (rw u at o) (rw u at z)))
            (by_last q)

        -- the turn of d keeps the invariant
        swept_turn : Swept (suc i) after
        swept_turn =
            record {
              long = left.kept ∙ s.long;
              bounded = λ c l. ⊎_elim (λ q. rw q (omega (arith, left.here, settled_is, pred_bound))) (λ u. omega (arith, left.no_more c l u, s.bounded c l)) (by_eq c d);
              past = λ c l r. ⊎_elim (λ k. past_kept c l k ∙ s.past c l k) (λ q. let e : c ≡ d = same c d l h (q ∙ sym here) in rw e (left.here ∙ settled_is)) (by_last r);
              offers = still_offers;
              collected = still_collected;
            }

      -- so the visit of d does
      swept_visit : Swept (suc i) (visited net a t work d)
      swept_visit = swept_turn (visited net a t work d) (visited_leaves net a t work d s.long h away)

    -- the turn at place i, by what its slot holds
    pub swept_slot : (i x : ℕ) (work : List ℕ) → Slot place net.connections i x → Swept i work → Swept (i + 1) (turned net a t work x)
    swept_slot i x work slot s =
        ⊎_elim
        (λ o. rw (← turn_skips net a t work x (omega (arith, o.0)), add-one) (swept_skip i work o.1 s))
        (λ o. rw (← turn_visits net a t work x (omega (arith, o.0, few)), add-one) (swept_visit i work x o.0 o.1 s))
        slot

-- The search for the last connection of a journey: its turns, and what it ends with. Assumes nothing.
use Rattle.std.proofs.Common.{◌≡◌, ℕ, ◌+◌, ◌<◌, ◌≤◌, Bool, true, false, ◌&&◌, eqb, List, length, get_or, Some, None, Option, MatchOption, sym, refl, ◌∙◌, inl, inr, true≢false, arith, below_more, le-ltb, lt-ltb}
use Rattle.timetable.specs.File.{to}
use Rattle.model.specs.Least.{none, key, Found, Nobody}
use Rattle.model.specs.Network.{Network}
use Rattle.model.specs.Predecessors.{reached_in, arriving, last_to}
use Rattle.model.specs.Shown.{shown}
use Rattle.graph.specs.declared.Network as graph
use Rattle.model.proofs.Least.{scan_done}
use Rattle.model.proofs.Lists.{inside}
use Rattle.journeys.specs.Last.{Better}

-- the code's test of an entry
module _ (w : List ℕ) (c : ℕ) (h : c < length w) where
  pub test_unreached : none ≤ get_or w c 0 → reached_in w c ≡ false
  test_unreached r = le-ltb (get_or w c none) none (omega (arith, inside w c none 0 h))

  pub test_reached : get_or w c 0 < none → reached_in w c ≡ true
  test_reached r = lt-ltb (get_or w c none) none (omega (arith, inside w c none 0 h))

-- of the numbers up to c, by those below it and c
module _ (test : ℕ → Bool) (time : ℕ → ℕ) (c : ℕ) where
  -- nobody passes
  nobody_more : test c ≡ false → Nobody test c → Nobody test (c + 1)
  nobody_more q k = below_more _ _ k (λ t. true≢false (sym t ∙ q))

  -- d is still the best
  stays : (d : ℕ) → d < c → (test c ≡ true → key time d ≤ key time c) → Found test time c d → Found test time (c + 1) d
  stays d l m k = record { below = omega arith; passes = k.passes; least = below_more _ _ k.least m }

  -- c is the best
  takes : test c ≡ true → ((e : ℕ) → e < c → test e ≡ true → key time c ≤ key time e) → Found test time (c + 1) c
  takes q m = record { below = omega arith; passes = q; least = below_more _ _ m (λ t. omega arith) }

module _ (v : graph.Network) (w : List ℕ) (b : ℕ) where
  abbrev f : List ℕ
  f = v.shown.timetable.file.now

  abbrev net : Network
  net = shown f v.shown.graph.now

  abbrev n : ℕ
  n = v.shown.timetable.connections

  abbrev test : ℕ → Bool
  test = arriving net w b

  few : net.connections ≤ none
  few = omega (arith, v.shown.timetable.opened.timetable.few)

  -- after the last turn
  pub search_done : (m : ℕ) → m ≡ net.connections → (best : Option ℕ) → Better net w b m best
      → MatchOption best (last_to net w b ≡ none) (λ d. (d < none) × (d ≡ last_to net w b))
  unfolding last_to
  search_done m q None k = sym (scan_done test net.arrival net.connections none few (inl (refl, rw q at k)))
  search_done m q (Some d) k =
      (omega (arith, k.below, few, q), scan_done test net.arrival net.connections d few (inr (rw q at k)))

  -- the turn of connection c
  module _ (c : ℕ) (h : c < n) (p : Bool) (e : p ≡ (reached_in w c && eqb (to f c) b)) where
    tested : arriving net w b c ≡ p
    unfolding arriving
    tested = sym e

    -- c does not end a journey at b
    pub turn_fails : p ≡ false → (best : Option ℕ) → Better net w b c best → Better net w b (c + 1) best
    turn_fails q None k = nobody_more test net.arrival c (tested ∙ q) k
    turn_fails q (Some d) k = stays test net.arrival c d k.below (λ t. absurd (true≢false (sym t ∙ tested ∙ q))) k

    module _ (q : p ≡ true) where
      -- c is the first that does
      pub turn_first : Better net w b c None → Better net w b (c + 1) (Some c)
      turn_first k = takes test net.arrival c (tested ∙ q) (λ e l t. absurd (k e l t))

      -- c arrives earlier than d, the best so far
      pub turn_wins : (d : ℕ) → Better net w b c (Some d) → net.arrival c < net.arrival d → Better net w b (c + 1) (Some c)
      turn_wins d k m = takes test net.arrival c (tested ∙ q) (λ e l t. omega (arith, k.least e l t, k.below, few, v.shown.timetable.opened.connections))

-- The sweep over the departures of a network from the last to the first. Assumes nothing.
use Rattle.std.proofs.Common.{◌≡◌, ℕ, ◌+◌, ◌<◌, ◌≤◌, List, length, get_or, set, refl, inl, inr, ⊎_elim, arith}
use Rattle.model.specs.Least.{none, key, tab}
use Rattle.model.specs.Network.{Network}
use Rattle.model.specs.Graph.{board, waiting}
use Rattle.model.proofs.Boards.{nobody, waiting_listed}
use Rattle.model.proofs.Tab.{tab_is}
use Rattle.model.proofs.ByCases.{by_lt}
use Rattle.sorting.specs.Order.{Each}
use Rattle.lists.specs.Lists.{Departed}
use Rattle.lists.proofs.Heads.{Head, Entered, More, entered_more, listed_one, head_more}

-- d is one of the first i numbers of l
abbrev pub Stands : List ℕ → ℕ → ℕ → Type 0
Stands l i d = (j : ℕ) × (j < i) × (get_or l j 0 ≡ d)

-- what the sweep has done when it has passed the first i departures
pub record Waited (net : Network) (l : List ℕ) (i : ℕ) (heads part : List ℕ) : Type 0 where
  pub first : Each (Head net (Stands l i)) heads
  pub entered : Each (Entered (waiting net) (Stands l i)) part

-- before the first turn
pub waited_none : (net : Network) (l : List ℕ) {heads part : List ℕ} → Each (λ b x. x ≡ none) heads → Waited net l 0 heads part
waited_none net l empty = record { first = λ b h. nobody (empty b h) (λ d q w. omega (arith, w.1)); entered = λ c h s. absurd (omega (arith, s)) }

module _ {net : Network} {k : ℕ} {l : List ℕ} (o : Departed net k l) where
  module _ {i : ℕ} (h : i < k) where
    -- the next departure is before those passed, and is the first that is
    before : (d : ℕ) → Stands l i d → key net.departure (get_or l i 0) < key net.departure d
    before d s = rw (← s.2) (o.falling.falls s.0 i s.1 h)

    behind : (d : ℕ) → d < net.connections → key net.departure (get_or l i 0) < key net.departure d → Stands l i d
    behind d q b =
        let s = o.falling.all d q in
        let passed : s.0 < i = grind (arith, o.falling.falls i s.0) in
        (s.0, passed, s.2)

    one_more : More (Stands l i) (Stands l (i + 1)) (get_or l i 0)
    one_more =
        record {
          kept = λ d s. (s.0, omega (arith, s.1), s.2);
          new = (i, omega arith, refl);
          only = λ d s. ⊎_elim (λ (a : s.0 < i). inr (s.0, a, s.2)) (λ (a : i ≤ s.0). inl (grind arith)) (by_lt s.0 i);
        }

    -- one turn
    pub waited_more : {c : ℕ} {heads part : List ℕ} → c ≡ get_or l i 0 → board net c < length heads → Waited net l i heads part
        → Waited net l (i + 1) (set heads (board net c) c) (set part c (get_or heads (board net c) 0))
    waited_more {c} {heads} {part} q b old =
        let m = rw (← q) at one_more in
        record {
          first = head_more net m (rw (← q) at before) (rw q (o.falling.each i h)) heads old.first;
          entered = entered_more (waiting net) m (waiting_is (old.first (board net c) b)) part old.entered;
        }
      where
        waiting_is : {x : ℕ} → Head net (Stands l i) (board net c) x → x ≡ waiting net c
        waiting_is head =
            listed_one net o.sound
            (λ d p w. (w.0, rw q (before d w.1)))
            (λ d p w. (w.0, behind d p (rw q at w.1)))
            head
            (waiting_listed net o.sound c)

  -- after the last turn
  pub waited_all : {heads part : List ℕ} → Waited net l k heads part → length part ≡ net.connections → part ≡ tab (waiting net) net.connections
  waited_all {heads} {part} done long = tab_is (waiting net) net.connections 0 part long (λ c h. done.entered c (omega arith) (o.falling.all c h))

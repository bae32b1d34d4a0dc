-- The rounds come to rest: the predecessors are what one more round makes of them. Assumes nothing.
use Rattle.std.proofs.Common.{◌≡◌, ℕ, zero, suc, ◌*◌, ◌<◌, ◌≤◌, Bool, true, false, cond, ◌&&◌, ltb, List, length, get_or, sym, refl, ap, ◌∙◌, arith}
use Rattle.model.specs.Least.{none, rank}
use Rattle.model.specs.Network.{Network, Sound}
use Rattle.model.specs.Journeys.{can_be_first, can_follow}
use Rattle.model.specs.Predecessors.{reached_in, choose, rounds, predecessors}
use Rattle.model.proofs.Least.{least_same}
use Rattle.model.proofs.Rank.{rank_below, rank_early}
use Rattle.model.proofs.Tab.{get_or_tab, length_tab}
use Rattle.model.proofs.Follows.{follows_later}

and_same : (p p' q : Bool) → (q ≡ true → p ≡ p') → p && q ≡ p' && q
and_same p p' true h = rw (h refl)
and_same true true false h = refl
and_same true false false h = refl
and_same false true false h = refl
and_same false false false h = refl

length_rounds : (net : Network) (a t k : ℕ) → net.connections ≤ k * net.connections → length (rounds net a t k) ≡ net.connections
unfolding rounds
length_rounds net a t zero h = omega arith
length_rounds net a t (suc k) h = length_tab _ _

-- there is an entry for each connection
pub length_predecessors : (net : Network) (a t : ℕ) → length (predecessors net a t) ≡ net.connections
unfolding predecessors
length_predecessors net a t = length_rounds net a t net.connections (square net.connections)
  where
    square : (n : ℕ) → n ≤ n * n
    square zero = omega arith
    square (suc n) = omega arith

-- no connection has the number none
pub numbered : {net : Network} → Sound net → net.connections ≤ none
numbered sound = omega (arith, sound.few)

module _ (net : Network) (a t : ℕ) (sound : Sound net) where
  -- what c gets depends on those that can stand before it alone
  choose_same : (v w : List ℕ) (c : ℕ) → ((e : ℕ) → e < net.connections → can_follow net e c ≡ true → get_or v e none ≡ get_or w e none) → choose net a t v c ≡ choose net a t w c
  unfolding choose
  choose_same v w c h =
      ap (cond (can_be_first net a t c) c)
      (least_same _ _ (λ e. 0) (λ e. 0) net.connections (numbered sound) (λ e l. and_same (reached_in v e) (reached_in w e) (can_follow net e c) (λ q. ap (λ k. ltb k none) (h e l q))) (λ e l. refl))

  round_next : (k c : ℕ) → c < net.connections → get_or (rounds net a t (suc k)) c none ≡ choose net a t (rounds net a t k) c
  unfolding rounds
  round_next k c h = get_or_tab _ _ c none h

  -- from round rank + 1 on a connection keeps its entry
  rests : (k c : ℕ) → c < net.connections → rank net.departure net.connections c < k → get_or (rounds net a t k) c none ≡ get_or (rounds net a t (suc k)) c none
  rests zero c h l = absurd (omega arith)
  rests (suc k) c h l =
      round_next k c h
      ∙ (choose_same (rounds net a t k) (rounds net a t (suc k)) c (λ e i f. rests k e i (omega (arith, rank_early net.departure net.connections (numbered sound) e c i (follows_later net sound e c i h f))))
      ∙ sym (round_next (suc k) c h))

  -- each entry is what the rule chooses by the entries: the law of predecessors, from which the others follow
  pub predecessor_is : (c : ℕ) → c < net.connections → get_or (predecessors net a t) c none ≡ choose net a t (predecessors net a t) c
  unfolding predecessors
  predecessor_is c h =
      rests net.connections c h (rank_below net.departure net.connections c h) ∙ round_next net.connections c h

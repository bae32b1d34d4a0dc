-- A transfer entry is the network's just where it fits the marks and lasts of right links. Assumes nothing.
use Rattle.std.proofs.Common.{◌≡◌, ℕ, zero, suc, ◌+◌, ◌*◌, ◌<◌, ◌≤◌, List, sym, ◌∙◌, ⊎_elim, arith}
use Rattle.model.specs.Least.{none, key}
use Rattle.model.specs.Network.{Network, Sound, last_expected}
use Rattle.model.specs.Graph.{board, ready, waiting, transfer, first_departure}
use Rattle.model.proofs.ByCases.{by_lt}
use Rattle.model.proofs.Boards.{ChangeOn, Listed, nobody, foremost, Behind, waiting_listed, transfer_listed, first_listed, entry_first}
use Rattle.links.specs.Links.{next_of, Mark, missed, first, next, Marks, Last, followed, unfollowed, Lasts}
use Rattle.changes.specs.Changes.{change_of, ChangeLink, nobody, leads}
use Rattle.certificate.specs.Lists.{LinksRight, AllMarked}
use Rattle.certificate.proofs.Links.{first_led, next_led, right_first, right_next}

module _ (net : Network) (sound : Sound net) (g : List ℕ) (right : LinksRight net g) where
  abbrev n : ℕ
  n = net.connections

  abbrev k : ℕ → ℕ
  k c = key net.departure c

  -- what comes before d on its board leaves before the mark of d
  mark_after : (d e x : ℕ) → d < n → e < n → board net e ≡ board net d → k e < k d → (x ≡ none → ⊥) → Mark net g net.stops n d x → net.departure e < x
  mark_after d e x h i b l all (missed q f w) = absurd (all q)
  mark_after d e x h i b l all (first s j q z) =
      let p : first_departure net s ≡ d = sym (right.firsts s j) ∙ q in
      let o : board net e ≡ s = b ∙ first_led net sound g (right_first net sound g right s j) q h in
      absurd (omega (arith, rw p at (entry_first net sound (first_listed net sound s) e i o).1))
  mark_after d e x h i b l all (next c j q z) =
      let p : waiting net c ≡ d = sym (right.nexts c j) ∙ q in
      let o = next_led net sound g (right_next net sound g right c j) q h in
      ⊎_elim
      (λ (a : k c < k e). absurd (omega (arith, rw p at (entry_first net sound (waiting_listed net sound c) e i (b ∙ o.0, a)).1)))
      (λ (a : k e ≤ k c). omega (arith, sound.few))
      (by_lt (k c) (k e))

  -- not every departure of a board is followed by another
  some_unfollowed : (s : ℕ) → ((c : ℕ) → c < n → board net c ≡ s → next_of net g c ≡ none → ⊥) → (m c : ℕ) → c < n → board net c ≡ s → 65536 * last_expected ≤ k c + m → ⊥
  some_unfollowed s f zero c h b l = omega (arith, sound.few, sound.forward c h, sound.early c h)
  some_unfollowed s f (suc m) c h b l = by_list (waiting_listed net sound c) (λ d i q u. some_unfollowed s f m d i q (omega arith))
    where
      by_list : Listed net (Behind net c) (waiting net c) → ((d : ℕ) → d < n → board net d ≡ s → k c < k d → ⊥) → ⊥
      by_list (nobody r w) on = f c h b (right.nexts c h ∙ r)
      by_list (foremost i p w) on = on _ i (p.0 ∙ b) p.1

  -- a departure of a board leaves before the mark of its last one
  last_after : (s e x : ℕ) → e < n → board net e ≡ s → Last net g n s x → net.departure e < x
  last_after s e x h b (followed q f) = absurd (some_unfollowed s f (65536 * last_expected) e h b (omega arith))
  last_after s e x h b (unfollowed c i p q z) =
      let r : waiting net c ≡ none = sym (right.nexts c i) ∙ q in
      ⊎_elim
      (λ (a : k c < k e). absurd (omega (arith, sound.few, rw r at (entry_first net sound (waiting_listed net sound c) e h (b ∙ sym p, a)).0)))
      (λ (a : k e ≤ k c). omega (arith, sound.few))
      (by_lt (k c) (k e))

  module _ (marks lasts : List ℕ) (marked : Marks net g net.stops net.connections marks) (all : AllMarked net marks)
      (lasted : Lasts net g net.connections lasts) (c : ℕ) (h : c < net.connections) where
    -- an entry that fits is right
    change_by : ChangeLink net g marks lasts c → Listed net (ChangeOn net c (net.to c)) (transfer net c) → change_of net g c ≡ transfer net c
    change_by (nobody q l) (nobody r f) = q ∙ sym r
    change_by (nobody q l) (foremost i p f) = absurd (omega (arith, p.1, last_after (net.to c) _ _ i p.0 (lasted.each (net.to c) (sound.to_stop c h))))
    change_by (leads i b a l) (nobody r f) = absurd (f _ i (b, a))
    change_by (leads i b a l) (foremost j p f) =
        ⊎_elim
        (λ (o : k (transfer net c) < k (change_of net g c)).
        absurd (omega (arith, p.1, mark_after _ _ _ i j (p.0 ∙ sym b) o (all _ i) (marked.each _ i))))
        (λ (o : k (change_of net g c) ≤ k (transfer net c)). omega (arith, f _ i (b, a), sound.few))
        (by_lt (k (transfer net c)) (k (change_of net g c)))

    pub change_right : ChangeLink net g marks lasts c → change_of net g c ≡ transfer net c
    change_right l = change_by l (transfer_listed net sound c (net.to c))

    -- the mark of a board on which one can change to nobody, and of the first that one can change to
    last_low : ((d : ℕ) → d < n → ChangeOn net c (net.to c) d → ⊥) → (x : ℕ) → Last net g n (net.to c) x → x ≤ ready net c (net.to c)
    last_low f x (followed q w) = omega arith
    last_low f x (unfollowed d i b q z) =
        ⊎_elim (λ (a : net.departure d < ready net c (net.to c)). omega arith) (λ (a : ready net c (net.to c) ≤ net.departure d). absurd (f d i (b, a))) (by_lt (net.departure d) (ready net c (net.to c)))

    mark_low : (d x : ℕ) → d < n → ChangeOn net c (net.to c) d → ((e : ℕ) → e < n → ChangeOn net c (net.to c) e → k d ≤ k e) → (x ≡ none → ⊥) → Mark net g net.stops n d x
        → x ≤ ready net c (net.to c)
    mark_low d x i p f hit (missed q v w) = absurd (hit q)
    mark_low d x i p f hit (first s j q z) = omega arith
    mark_low d x i p f hit (next e j q z) =
        let o = next_led net sound g (right_next net sound g right e j) q i in
        ⊎_elim
        (λ (a : net.departure e < ready net c (net.to c)). omega arith)
        (λ (a : ready net c (net.to c) ≤ net.departure e). absurd (omega (arith, o.1, f e j (sym o.0 ∙ p.0, a))))
        (by_lt (net.departure e) (ready net c (net.to c)))

    -- a right entry fits
    fits : Listed net (ChangeOn net c (net.to c)) (transfer net c) → change_of net g c ≡ transfer net c → ChangeLink net g marks lasts c
    fits (nobody r f) q = nobody (q ∙ r) (last_low f _ (lasted.each (net.to c) (sound.to_stop c h)))
    fits (foremost i p f) q =
        leads (rw q i) (rw q p.0) (rw q p.1) (rw q (mark_low (transfer net c) _ i p f (all _ i) (marked.each _ i)))

    pub right_change : change_of net g c ≡ transfer net c → ChangeLink net g marks lasts c
    right_change q = fits (transfer_listed net sound c (net.to c)) q

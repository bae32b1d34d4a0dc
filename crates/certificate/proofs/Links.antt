-- First departures and waiting entries whose links each lead on and reach every connection are those of the network, and those
-- of the network do so. Assumes nothing.
use Rattle.std.proofs.Common.{◌≡◌, ℕ, zero, suc, ◌+◌, ◌<◌, ◌≤◌, List, get_or, sym, refl, ◌∙◌, ⊎_elim, arith}
use Rattle.model.specs.Least.{key}
use Rattle.model.specs.Network.{Network, Sound}
use Rattle.model.specs.Graph.{board, waiting, first_departure}
use Rattle.model.proofs.ByCases.{by_lt}
use Rattle.model.proofs.Boards.{Listed, nobody, foremost, Behind, waiting_listed, first_listed, entry_first, entry_holds}
use Rattle.links.proofs.Marks.{first_leads, next_leads}
use Rattle.links.specs.Links.{first_of, next_of, FirstLink, NextLink, nobody, leads, Mark, missed, first, next, Marks}
use Rattle.certificate.specs.Lists.{LinksRight, AllMarked}

module _ (net : Network) (sound : Sound net) (g : List ℕ) where
  abbrev n : ℕ
  n = net.connections

  abbrev k : ℕ → ℕ
  k c = key net.departure c

  -- a connection that a link leads to
  pub first_led : {s d : ℕ} → FirstLink net g s → first_of net g s ≡ d → d < net.connections → board net d ≡ s
  first_led link e h = rw e at (first_leads net g link (λ q. omega (arith, sound.few))).1

  pub next_led : {c d : ℕ} → NextLink net g c → next_of net g c ≡ d → d < net.connections → Behind net c d
  next_led link e h =
      let l = next_leads net g link (λ q. omega (arith, sound.few)) in
      (rw e at l.1, rw e at l.2)

  module _ (marks : List ℕ) (starts : (s : ℕ) → s < net.stops → FirstLink net g s) (goes : (c : ℕ) → c < net.connections → NextLink net g c)
      (marked : Marks net g net.stops net.connections marks) (all : AllMarked net marks) where
    -- the link that leads to the first departure of s is the board's own
    first_is : (s d : ℕ) → d < n → board net d ≡ s → ((e : ℕ) → e < n → board net e ≡ s → k d ≤ k e) → Mark net g net.stops n d (get_or marks d 0)
        → first_of net g s ≡ d
    first_is s d h b least (missed q f w) = absurd (all d h q)
    first_is s d h b least (first t i q x) = rw (sym b ∙ first_led (starts t i) q h) q
    first_is s d h b least (next c i q x) =
        let p = next_led (goes c i) q h in
        absurd (omega (arith, p.1, least c i (sym p.0 ∙ b)))

    -- first departures are right
    firsts : (s : ℕ) → s < net.stops → first_of net g s ≡ first_departure net s
    firsts s h = by_list (starts s h) (first_listed net sound s)
      where
        by_list : FirstLink net g s → Listed net (λ d. board net d ≡ s) (first_departure net s) → first_of net g s ≡ first_departure net s
        by_list (nobody q) (nobody r f) = q ∙ sym r
        by_list (leads l b) (nobody r f) = absurd (f _ l b)
        by_list o (foremost l b f) = first_is s _ l b f (marked.each _ l)

    -- the link that leads to the next departure d after c is c's own, where those of the connections before c are right
    next_is : (c d : ℕ) → c < n → d < n → Behind net c d → ((e : ℕ) → e < n → Behind net c e → k d ≤ k e)
        → ((p : ℕ) → p < n → k p < k c → next_of net g p ≡ waiting net p) → Mark net g net.stops n d (get_or marks d 0) → next_of net g c ≡ d
    next_is c d hc h b least before (missed q f w) = absurd (all d h q)
    next_is c d hc h b least before (first s i q x) =
        let p : board net c ≡ s = sym b.0 ∙ first_led (starts s i) q h in
        let e : first_departure net s ≡ d = sym (firsts s i) ∙ q in
        absurd (omega (arith, b.1, rw e at (entry_first net sound (first_listed net sound s) c hc p).1))
    next_is c d hc h b least before (next p i q x) =
        let a = next_led (goes p i) q h in
        let s : board net c ≡ board net p = sym b.0 ∙ a.0 in
        ⊎_elim
        (λ (l : k c < k p). absurd (omega (arith, a.1, least p i (sym s, l))))
        (λ (l : k p ≤ k c).
        ⊎_elim
        (λ (o : k p < k c).
        let e : waiting net p ≡ d = sym (before p i o) ∙ q in
        absurd (omega (arith, b.1, rw e at (entry_first net sound (waiting_listed net sound p) c hc (s, o)).1)))
        (λ (o : k c ≤ k p). let e : c ≡ p = omega (arith, sound.few) in rw e q)
        (by_lt (k p) (k c)))
        (by_lt (k c) (k p))

    -- and so are waiting entries, by induction on the connection's place in the order of departures
    next_by : (c : ℕ) → c < n → ((p : ℕ) → p < n → k p < k c → next_of net g p ≡ waiting net p) → NextLink net g c → Listed net (Behind net c) (waiting net c)
        → next_of net g c ≡ waiting net c
    next_by c h before (nobody q) (nobody r f) = q ∙ sym r
    next_by c h before (leads i b a) (nobody r f) = absurd (f _ i (b, a))
    next_by c h before o (foremost i b f) = next_is c _ h i b f before (marked.each _ i)

    nexts : (m c : ℕ) → c < n → k c < m → next_of net g c ≡ waiting net c
    nexts zero c h l = absurd (omega arith)
    nexts (suc m) c h l = next_by c h (λ p i u. nexts m p i (omega arith)) (goes c h) (waiting_listed net sound c)

    -- links that lead on and reach every connection are right
    pub links_right : LinksRight net g
    links_right = record { firsts = firsts; nexts = λ c h. nexts (suc (k c)) c h (omega arith) }

  module _ (right : LinksRight net g) where
    -- right links lead on
    pub right_first : (s : ℕ) → s < net.stops → FirstLink net g s
    right_first s h = by_list (first_listed net sound s)
      where
        by_list : Listed net (λ d. board net d ≡ s) (first_departure net s) → FirstLink net g s
        by_list (nobody r f) = nobody (right.firsts s h ∙ r)
        by_list (foremost l b f) = leads (rw (right.firsts s h) l) (rw (right.firsts s h) b)

    pub right_next : (c : ℕ) → c < net.connections → NextLink net g c
    right_next c h = by_list (waiting_listed net sound c)
      where
        by_list : Listed net (Behind net c) (waiting net c) → NextLink net g c
        by_list (nobody r f) = nobody (right.nexts c h ∙ r)
        by_list (foremost l b f) = leads (rw (right.nexts c h) l) (rw (right.nexts c h) b.0) (rw (right.nexts c h) b.1)

    -- and reach every connection: from one before d on its board the links go on to d
    climb : (d : ℕ) → d < n → ((c : ℕ) → c < n → next_of net g c ≡ d → ⊥) → (m c : ℕ) → c < n → board net d ≡ board net c → k c < k d → k d < k c + m → ⊥
    climb d h w zero c i s l b = omega arith
    climb d h w (suc m) c i s l b =
        let e = entry_first net sound (waiting_listed net sound c) d h (s, l) in
        let p = (entry_holds net sound (waiting_listed net sound c) (omega (arith, e.0, sound.few))).1 in
        ⊎_elim
        (λ (o : k (waiting net c) < k d). climb d h w m (waiting net c) e.0 (s ∙ sym p.0) o (omega (arith, p.1)))
        (λ (o : k d ≤ k (waiting net c)).
        let q : waiting net c ≡ d = omega (arith, e.0, e.1, sound.few) in
        w c i (right.nexts c i ∙ q))
        (by_lt (k (waiting net c)) (k d))

    pub right_marked : (marks : List ℕ) → Marks net g net.stops net.connections marks → AllMarked net marks
    right_marked marks marked d h q = by_mark (marked.each d h)
      where
        by_mark : Mark net g net.stops n d (get_or marks d 0) → ⊥
        by_mark (first s i e x) = omega arith
        by_mark (next c i e x) = omega (arith, sound.forward c i, sound.early c i)
        by_mark (missed x f w) =
            let s = board net d in
            let i = sound.from_stop_lem d h in
            let o = entry_first net sound (first_listed net sound s) d h refl in
            let b = (entry_holds net sound (first_listed net sound s) (omega (arith, o.0, sound.few))).1 in
            ⊎_elim
            (λ (l : k (first_departure net s) < k d). climb d h w (suc (k d)) (first_departure net s) o.0 (sym b) l (omega arith))
            (λ (l : k d ≤ k (first_departure net s)).
            let e : first_departure net s ≡ d = omega (arith, o.0, o.1, sound.few) in
            f s i (right.firsts s i ∙ e))
            (by_lt (k (first_departure net s)) (k d))

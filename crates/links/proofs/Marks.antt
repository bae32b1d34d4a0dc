-- How the link of one more board or connection keeps the marks of connections and boards, and what the check of a link has told.
-- Assumes nothing.
use Rattle.std.proofs.Common.{◌≡◌, ℕ, suc, ◌+◌, ◌<◌, ◌≤◌, true, eqb, ltb, List, length, get_or, set, sym, refl, ◌∙◌, ⊎_elim, add-one, arith, length-set, get_or-set_other, get_or-set_same, ltb-true, eq-eqb, ne_eqb}
use Rattle.model.specs.Least.{none, key}
use Rattle.model.specs.Network.{Network, Sound}
use Rattle.model.specs.Graph.{board, departure_in, waiting_in, first_in}
use Rattle.model.proofs.ByCases.{by_eq, one_more}
use Rattle.model.specs.Shown.{shown}
use Rattle.links.specs.Links.{first_of, next_of, FirstLink, NextLink, nobody, leads, Mark, missed, first, next, Marks, Last, followed, unfollowed, Lasts}
use Rattle.boards.specs.Timed.{Timed, board_in}
use Rattle.links.specs.Telling.{FirstsLinked, NextsLinked, FirstTold, NextTold}
use Rattle.links.proofs.Telling.{told, denied}

-- what holds of each of the n places of a list, after a store
stored : (P Q : ℕ → ℕ → Type 0) (n : ℕ) (l : List ℕ) (i v : ℕ) → length l ≡ n → ((j : ℕ) → j < n → P j (get_or l j 0))
    → ((j x : ℕ) → (j ≡ i → ⊥) → P j x → Q j x) → Q i v → (j : ℕ) → j < n → Q j (get_or (set l i v) j 0)
stored P Q n l i v long old keep new j h =
    ⊎_elim
    (λ (e : j ≡ i). let b : i < length l = omega arith in rw (e, get_or-set_same l i v 0 b) new)
    (λ (ne : j ≡ i → ⊥). rw (get_or-set_other l i j v 0 ne) (keep j (get_or l j 0) ne (old j h)))
    (by_eq j i)

module _ (net : Network) (g : List ℕ) where
  -- a mark is kept by the link of board k that leads elsewhere
  first_apart : {k m d x : ℕ} → (first_of net g k ≡ d → ⊥) → Mark net g k m d x → Mark net g (suc k) m d x
  first_apart {k} {m} {d} ne (missed q a b) = missed q (one_more (λ s. first_of net g s ≡ d → ⊥) k a ne) b
  first_apart ne (first s h l q) = first s (omega arith) l q
  first_apart ne (next c h l q) = next c h l q

  -- and by that of connection m
  next_apart : {k m d x : ℕ} → (next_of net g m ≡ d → ⊥) → Mark net g k m d x → Mark net g k (suc m) d x
  next_apart {k} {m} {d} ne (missed q a b) = missed q a (one_more (λ c. next_of net g c ≡ d → ⊥) m b ne)
  next_apart ne (first s h l q) = first s h l q
  next_apart ne (next c h l q) = next c (omega arith) l q

  -- the last of a board is kept by connection m if that is on another or is followed
  last_apart : {m s x : ℕ} → (board net m ≡ s → next_of net g m ≡ none → ⊥) → Last net g m s x → Last net g (suc m) s x
  last_apart {m} {s} ne (followed q a) = followed q (one_more (λ c. board net c ≡ s → next_of net g c ≡ none → ⊥) m a ne)
  last_apart ne (unfollowed c h b l q) = unfollowed c (omega arith) b l q

  module _ {k m : ℕ} {marks : List ℕ} (old : Marks net g k m marks) where
    -- board k links to d
    first_marked : (d : ℕ) → first_of net g k ≡ d → Marks net g (suc k) m (set marks d 0)
    first_marked d l =
        record {
          long = rw length-set old.long;
          each = stored (Mark net g k m) (Mark net g (suc k) m) net.connections marks d 0 old.long old.each (λ j x ne. first_apart (λ e. ne (sym e ∙ l))) (first k (omega arith) l refl);
        }

    -- connection m links to d
    next_marked : (d : ℕ) → next_of net g m ≡ d → Marks net g k (suc m) (set marks d (suc (net.departure m)))
    next_marked d l =
        record {
          long = rw length-set old.long;
          each = stored (Mark net g k m) (Mark net g k (suc m)) net.connections marks d (suc (net.departure m)) old.long old.each (λ j x ne. next_apart (λ e. ne (sym e ∙ l))) (next m (omega arith) l refl);
        }

    module _ (sound : Sound net) where
      -- board k has no link
      first_unmarked : first_of net g k ≡ none → Marks net g (suc k) m marks
      first_unmarked l =
          record { long = old.long; each = λ d h. first_apart (λ (e : first_of net g k ≡ d). omega (arith, sound.few)) (old.each d h) }

      -- connection m has none
      next_unmarked : next_of net g m ≡ none → Marks net g k (suc m) marks
      next_unmarked l =
          record { long = old.long; each = λ d h. next_apart (λ (e : next_of net g m ≡ d). omega (arith, sound.few)) (old.each d h) }

  module _ {m : ℕ} {lasts : List ℕ} (old : Lasts net g m lasts) where
    -- connection m is not followed
    next_last : next_of net g m ≡ none → Lasts net g (suc m) (set lasts (board net m) (suc (net.departure m)))
    next_last l =
        record {
          long = rw length-set old.long;
          each = stored (Last net g m) (Last net g (suc m)) net.stops lasts (board net m) (suc (net.departure m)) old.long old.each (λ j x ne. last_apart (λ e q. ne (sym e))) (unfollowed m (omega arith) refl l refl);
        }

    -- connection m is followed
    next_followed : (next_of net g m ≡ none → ⊥) → Lasts net g (suc m) lasts
    next_followed ne = record { long = old.long; each = λ s h. last_apart (λ e q. ne q) (old.each s h) }

  -- a first departure that is not none is on its board
  pub first_leads : {s : ℕ} → FirstLink net g s → (first_of net g s ≡ none → ⊥) → (first_of net g s < net.connections) × (board net (first_of net g s) ≡ s)
  first_leads (nobody q) ne = absurd (ne q)
  first_leads (leads h b) ne = (h, b)

  -- a waiting entry that is not none is on the same board and leaves after c
  pub next_leads : {c : ℕ} → NextLink net g c → (next_of net g c ≡ none → ⊥)
      → (next_of net g c < net.connections) × (board net (next_of net g c) ≡ board net c) × (key net.departure c < key net.departure (next_of net g c))
  next_leads (nobody q) ne = absurd (ne q)
  next_leads (leads h b k) ne = (h, b, k)

module _ {f g : List ℕ} {s n : ℕ} (given : Timed f s n g) where
  -- the check of board b, whose first departure is e
  module _ (b e : ℕ) (is : e ≡ first_in g n b) {marks : List ℕ} (old : FirstsLinked f g b marks) where
    reads_first : first_of (shown f g) g b ≡ e
    reads_first = rw (← given.opened.connections) (sym is)

    -- it is no connection
    pub first_off : n ≤ e → FirstTold f g b (eqb e none) marks
    first_off h =
        ⊎_elim
        (λ q. rw (eq-eqb e none q) (told (nobody (reads_first ∙ q)) (first_unmarked (shown f g) g old given.sound (reads_first ∙ q))))
        (λ some. rw (ne_eqb e none some) (denied (λ link. grind (arith, reads_first, given.opened.connections))))
        (by_eq e none)

    -- it is on b
    pub first_right : e < n → board_in f e ≡ b → FirstTold f g b true (set marks e 0)
    first_right h on =
        told
        (leads (rw reads_first (omega (arith, given.opened.connections))) (rw reads_first on))
        (first_marked (shown f g) g old e reads_first)

  -- the check of connection c, whose waiting entry is e
  module _ (c e : ℕ) (is : e ≡ waiting_in g n c) {marks lasts : List ℕ} (old : NextsLinked f g s c marks lasts) where
    reads_next : next_of (shown f g) g c ≡ e
    reads_next = rw (← given.opened.connections) (sym is)

    -- there is none
    pub next_none : (b departure : ℕ) → b ≡ board_in f c → departure ≡ departure_in g c → e ≡ none → NextTold f g s c true marks (set lasts b (departure + 1))
    next_none b departure p d q =
        let l = reads_next ∙ q in
        told (nobody l)
        (record { marks = next_unmarked (shown f g) g old.marks given.sound l; lasts = rw (p, add-one departure, d) (next_last (shown f g) g old.lasts l) })

    -- it is a connection that is on the same board and leaves after c
    pub next_right : e < n → (departure : ℕ) → departure ≡ departure_in g c → board_in f e ≡ board_in f c → ltb (key (departure_in g) c) (key (departure_in g) e) ≡ true
        → NextTold f g s c true (set marks e (departure + 1)) lasts
    next_right h departure d on t =
        told
        (leads (rw reads_next (omega (arith, given.opened.connections))) (rw reads_next on) (rw reads_next (ltb-true _ _ t)))
        (record {
          marks = rw (add-one departure, d) (next_marked (shown f g) g old.marks e reads_next);
          lasts = next_followed (shown f g) g old.lasts (λ l. absurd (omega (arith, reads_next, given.sound.few, given.opened.connections)));
        })

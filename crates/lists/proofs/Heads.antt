-- What a sweep of departures from the last to the first knows of those that it has passed: the first of each board, the entries
-- that it has filled, and their list. Assumes nothing.
use Rattle.std.proofs.Common.{◌≡◌, ℕ, ◌+◌, ◌<◌, ◌⊎◌, List, length, set, sym, refl, ap, ◌∙◌, ⊎_elim, arith, length-set, get_or-set_same}
use Rattle.std.proofs.lemmas.Grind.{common_steps}
use Rattle.model.specs.Least.{key}
use Rattle.model.specs.Network.{Network, Sound}
use Rattle.model.specs.Graph.{board}
use Rattle.model.proofs.Boards.{Listed, nobody, foremost}
use Rattle.sorting.specs.Order.{Each}
use Rattle.lists.specs.Lists.{Falling}
use Rattle.sorting.proofs.Stores.{each_set}

-- x is the first departure of board b of those that P names, or none
abbrev pub Head : Network → (ℕ → Type 0) → ℕ → ℕ → Type 0
Head net P b x = Listed net (λ d. (board net d ≡ b) × P d) x

-- the entry of a number that P names is f's
abbrev pub Entered : (ℕ → ℕ) → (ℕ → Type 0) → ℕ → ℕ → Type 0
Entered f P c x = P c → x ≡ f c

-- P and Q name the same numbers
pub record Alike (P Q : ℕ → Type 0) : Type 0 where
  pub to : (d : ℕ) → P d → Q d
  pub back : (d : ℕ) → Q d → P d

-- Q names those that P names, and c
pub record More (P Q : ℕ → Type 0) (c : ℕ) : Type 0 where
  pub kept : (d : ℕ) → P d → Q d
  pub new : Q c
  pub only : (d : ℕ) → Q d → (d ≡ c) ⊎ P d

-- entries, past a number that is none of theirs and with one more
module _ (f : ℕ → ℕ) {P Q : ℕ → Type 0} where
  pub entered_alike : Alike P Q → (l : List ℕ) → Each (Entered f P) l → Each (Entered f Q) l
  entered_alike a l old c h q = old c h (a.back c q)

  pub entered_more : {c x : ℕ} → More P Q c → x ≡ f c → (l : List ℕ) → Each (Entered f P) l → Each (Entered f Q) (set l c x)
  entered_more {c} {x} more is l old d h q = grind (arith, common_steps, old d, more.only d)

module _ (net : Network) where
  abbrev n : ℕ
  n = net.connections

  abbrev k : ℕ → ℕ
  k c = key net.departure c

  -- what is listed by facts that hold of the same connections is the same
  pub listed_one : Sound net → {P Q : ℕ → Type 0} {r r' : ℕ} → ((d : ℕ) → d < net.connections → P d → Q d) → ((d : ℕ) → d < net.connections → Q d → P d)
      → Listed net P r → Listed net Q r' → r ≡ r'
  listed_one sound to back (nobody e f) (nobody e' f') = e ∙ sym e'
  listed_one sound to back (nobody e f) (foremost h p m) = absurd (f _ h (back _ h p))
  listed_one sound to back (foremost h p m) (nobody e f) = absurd (f _ h (to _ h p))
  listed_one sound to back (foremost h p m) (foremost h' p' m') = omega (arith, m _ h' (back _ h' p'), m' _ h (to _ h p), sound.few)

  module _ {P Q : ℕ → Type 0} where
    -- a head stays where no more of its board are named
    head_kept : {b x : ℕ} → ((d : ℕ) → P d → Q d) → ((d : ℕ) → board net d ≡ b → Q d → P d) → Head net P b x → Head net Q b x
    head_kept kept only (nobody e f) = nobody e (λ d h w. f d h (w.0, only d w.0 w.1))
    head_kept kept only (foremost h p m) = foremost h (p.0, kept _ p.1) (λ d l w. m d l (w.0, only d w.0 w.1))

    pub head_alike : Alike P Q → (l : List ℕ) → Each (Head net P) l → Each (Head net Q) l
    head_alike a l old b h = head_kept a.to (λ d e. a.back d) (old b h)

    pub falling_alike : Alike P Q → {m : ℕ} (l : List ℕ) → Falling net P m l → Falling net Q m l
    falling_alike a l old = record { room = old.room; each = λ j h. a.to _ (old.each j h); all = λ d q. old.all d (a.back d q); falls = old.falls }

    -- one more, before all that were named
    module _ {c : ℕ} (more : More P Q c) (before : (d : ℕ) → P d → key net.departure c < key net.departure d) where
      -- is the head of its board
      pub head_more : c < net.connections → (l : List ℕ) → Each (Head net P) l → Each (Head net Q) (set l (board net c) c)
      head_more h l old =
          each_set (Head net P) (Head net Q) l (board net c) c old
          (λ b x ne w. head_kept more.kept (λ d e q. ⊎_elim (λ z. absurd (ne (sym e ∙ ap (board net) z))) (λ p. p) (more.only d q)) w)
          (foremost h (refl, more.new) (λ d l w. ⊎_elim (λ (e : d ≡ c). rw e (omega arith)) (λ p. omega (arith, before d p)) (more.only d w.1)))

      -- and the last of their list
      pub falling_more : {m : ℕ} (l : List ℕ) → m < length l → Falling net P m l → Falling net Q (m + 1) (set l m c)
      falling_more {m} l room old =
          record {
            room = rw length-set (omega arith);
            each = λ j h. grind (arith, common_steps, old.each j, more.new, more.kept);
            all = λ d q. ⊎_elim (λ e. (m, omega arith, get_or-set_same l m c 0 room ∙ sym e)) (λ p. let w = old.all d p in (w.0, omega (arith, w.1), grind (arith, common_steps))) (more.only d q);
            falls = λ i j h b. grind (arith, common_steps, old.falls i j, old.each i, before);
          }

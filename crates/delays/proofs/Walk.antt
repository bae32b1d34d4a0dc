-- The walk over the rows: one turn, and that it comes to the primary delays. Assumes nothing.
use Rattle.std.proofs.Common.{◌≡◌, ℕ, suc, ◌+◌, ◌*◌, ◌/◌, ◌%◌, ◌<◌, ◌≤◌, List, [], ◌∷◌, ◌++◌, length, get_or, set, replicate, sym, refl, ap, ◌∙◌, ⊎_elim, arith, get_or-set_other, get_or-set_same}
use lib.ListN.{length-replicate, get_or-replicate}
use Rattle.model.specs.declared.PrimaryDelay.{PrimaryDelay}
use Rattle.model.specs.Notices.{width, row_at, cut}
use Rattle.model.specs.declared.Notice.{Notice}
use Rattle.model.specs.Times.{no_delay, with_notice, primary_delay}
use Rattle.model.proofs.ByCases.{by_eq}
use Rattle.model.proofs.Primary.{with_other, with_comm, primary_none, primary_more}
use Rattle.delays.specs.Delays.{number_size, rows_in, primary_in, primary_after, NoDelays, Tells}

-- a list of zeros holds no delays
pub zeros_none : (n : ℕ) → NoDelays (replicate n 0)
zeros_none n = ap (λ (k : ℕ). replicate {A = ℕ} k 0) (sym (length-replicate {A = ℕ} n 0))

-- a delay and a notice in one number
pub pair_in : (delay notice : ℕ) → delay < number_size → primary_in (delay + number_size * notice) ≡ record { delay = delay; notice = notice }
pair_in delay notice h =
    let d : (delay + number_size * notice) % number_size ≡ delay = omega arith in
    let n : (delay + number_size * notice) / number_size ≡ notice = omega arith in
    rw (d, n)

module _ (c : ℕ) where
  -- a notice before the rows or after them
  after_with : (n : Notice) (ns : List Notice) (p : PrimaryDelay) → primary_after c ns (with_notice c n p) ≡ with_notice c n (primary_after c ns p)
  unfolding primary_after
  after_with n [] p = refl
  after_with n (m ∷ ns) p = ap (primary_after c ns) (with_comm c m n p) ∙ after_with n ns (with_notice c m p)

  -- from no delay the rows give the primary delay
  pub after_none : (ns : List Notice) → primary_after c ns no_delay ≡ primary_delay c ns
  unfolding primary_after
  after_none [] = sym (primary_none c)
  after_none (n ∷ ns) = after_with n ns no_delay ∙ ap (with_notice c n) (after_none ns) ∙ sym (primary_more c n ns)

-- a row at the front of a list of numbers
rows_first : (row left : List ℕ) → length row ≡ width → rows_in (row ++ left) ≡ row_at row ∷ rows_in left
unfolding cut
rows_first [] left h = absurd (omega arith)
rows_first (a ∷ []) left h = absurd (omega arith)
rows_first (a ∷ b ∷ []) left h = absurd (omega arith)
rows_first (a ∷ b ∷ d ∷ []) left h =
    let n : length (a ∷ b ∷ d ∷ left) / width ≡ suc (length left / width) = omega arith in
    rw n
rows_first (a ∷ b ∷ d ∷ e ∷ row) left h = absurd (omega arith)

-- fewer numbers than a row has
rows_none : (left : List ℕ) → length left < width → rows_in left ≡ []
unfolding cut
rows_none left h =
    let n : length left / width ≡ 0 = omega arith in
    rw n

-- the rows that are left make of each of n connections' primary delay so far that by all rows
abbrev pub Walks : List ℕ → List ℕ → List ℕ → ℕ → Type 0
Walks rows left primaries n =
    (c : ℕ) → c < n → primary_after c (rows_in left) (primary_in (get_or primaries c 0)) ≡ primary_delay c (rows_in rows)

pub walk_start : (rows primaries : List ℕ) → NoDelays primaries → Walks rows rows primaries (length primaries)
walk_start rows primaries none c h =
    let o : get_or primaries c 0 ≡ 0 = ap (λ (l : List ℕ). get_or l c 0) none ∙ get_or-replicate {A = ℕ} (length primaries) c 0 0 h in
    rw o (after_none c (rows_in rows))

-- the primary delays after a row: of its connection that with the row, of the others those before
abbrev pub Turned : Notice → List ℕ → List ℕ → ℕ → Type 0
Turned n before after c = primary_in (get_or after c 0) ≡ with_notice c n (primary_in (get_or before c 0))

-- a row of a connection that is there
pub turn_set : (n : Notice) (primaries : List ℕ) (x : ℕ) → n.connection < length primaries
    → primary_in x ≡ with_notice n.connection n (primary_in (get_or primaries n.connection 0))
    → (c : ℕ) → Turned n primaries (set primaries n.connection x) c
turn_set n primaries x h e c =
    ⊎_elim
    (λ (q : n.connection ≡ c). rw (← q, get_or-set_same primaries n.connection x 0 h) e)
    (λ (q : n.connection ≡ c → ⊥).
    rw (get_or-set_other primaries n.connection c x 0 (λ (p : c ≡ n.connection). q (sym p))) (sym (with_other c n (primary_in (get_or primaries c 0)) q)))
    (by_eq n.connection c)

-- a row of a connection past the last
pub turn_past : (n : Notice) (primaries : List ℕ) → length primaries ≤ n.connection → (c : ℕ) → c < length primaries → Turned n primaries primaries c
turn_past n primaries h c l = sym (with_other c n (primary_in (get_or primaries c 0)) (λ (q : n.connection ≡ c). omega arith))

pub walk_turn : (rows left row next primaries primaries' : List ℕ) (n : ℕ) → left ≡ row ++ next → length row ≡ width
    → Walks rows left primaries n → ((c : ℕ) → c < n → Turned (row_at row) primaries primaries' c) → Walks rows next primaries' n
unfolding primary_after
walk_turn rows left row next primaries primaries' n e h w t c l =
    rw (t c l) (rw (e, rows_first row next h) at (w c l))

-- at the end: the primary delays
pub walk_end : (rows left primaries : List ℕ) (n : ℕ) → length left < width → length primaries ≡ n → Walks rows left primaries n
    → Tells (rows_in rows) primaries n
unfolding primary_after
walk_end rows left primaries n e long w =
    record { room = long; tells = λ c h. rw (rows_none left e) at (w c h) }

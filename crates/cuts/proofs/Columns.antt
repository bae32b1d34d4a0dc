-- A column of a text, whatever reads it and whatever byte ends it: as the code finds it, and what stands there. Assumes nothing.
use Rattle.std.proofs.Common.{◌≡◌, ℕ, ◌+◌, ◌-◌, ◌<◌, Bool, true, false, cond, List, length, take, drop, Some, None, Option, sym, refl, ap}
use Rattle.std.proofs.lemmas.Option.{some_pair_parts}
use Rattle.cuts.specs.Cut.{has, before}
use Rattle.cuts.proofs.Pieces.{piece_taken, piece_cut}
use Rattle.cuts.specs.Columns.{with_next, column_of}

-- what a column holds by whether a byte ends it and what is read there
is_read : (ended : Bool) (number : Option ℕ) (next n m : ℕ) → cond ended (with_next number next) None ≡ Some (n, m)
    → (ended ≡ true) × (number ≡ Some n) × (m ≡ next)
is_read true (Some k) next n m u = let e = some_pair_parts k n next m u in (refl, ap Some e.0, sym e.1)
is_read true None next n m u = (refl, cc, cc)
is_read false number next n m u = (cc, cc, cc)

is_unread : (number : Option ℕ) (next : ℕ) → with_next number next ≡ None → number ≡ None
is_unread (Some n) next u = cc
is_unread None next u = refl

module _ (read : List ℕ → Option ℕ) (byte : ℕ) (text : List ℕ) (at : ℕ) where
  -- the rest of the text, and the word that it starts with
  abbrev rest : List ℕ
  rest = drop at text

  abbrev word : List ℕ
  word = before byte rest

  -- no such byte ends it
  pub column_open : has byte rest ≡ false → None ≡ column_of read byte text at
  unfolding column_of
  column_open h = rw h

  module _ (end : ℕ) (ends : end ≡ at + length word) where
    -- what is read from its place to its end
    pub column_at : end < length text → (number : Option ℕ) → number ≡ read (take (end - at) rest)
        → with_next number (end + 1) ≡ column_of read byte text at
    unfolding column_of
    column_at h number reads = rw (reads, piece_taken byte text at end ends, piece_cut byte text at end ends h, ends)

  -- one that is read: such a byte ends it, its number, and where the next one starts
  pub column_read : {n next : ℕ} → column_of read byte text at ≡ Some (n, next)
      → (has byte rest ≡ true) × (read word ≡ Some n) × (next ≡ at + length word + 1)
  unfolding column_of
  column_read {n} {next} is = is_read (has byte rest) (read word) (at + length word + 1) n next is

  -- one that is not, though such a byte ends it
  pub column_unread : column_of read byte text at ≡ None → has byte rest ≡ true → read word ≡ None
  unfolding column_of
  column_unread is ended = is_unread (read word) (at + length word + 1) (rw ended at is)

-- A line of a text read column by column: one that is read leaves the rest of the line, and with one that is not the line is wrong.
-- Assumes nothing.
use Rattle.std.proofs.Common.{◌≡◌, ℕ, ◌+◌, Bool, true, false, cond, List, [], ◌∷◌, ◌++◌, length, drop, Some, None, Option, refl, ap, ◌∙◌, arith, length-append}
use Rattle.decimals.specs.Bytes.{newline}
use Rattle.gtfs.specs.declared.StopTime.{StopTime}
use Rattle.cuts.specs.Cut.{has, before, after}
use Rattle.gtfs.specs.StopTimes.{comma}
use Rattle.cuts.proofs.Cut.{cut_whole, before_without, before_end, after_end, after_none, has_either, before_first, before_second}
use Rattle.cuts.proofs.Pieces.{piece_after}
use Rattle.cuts.specs.Columns.{with_next, column_of}
use Rattle.cuts.proofs.Columns.{column_read, column_unread}

-- what is left of a line at a place of a text, of which a function makes the row
abbrev pub line_from : (List ℕ → Option StopTime) → List ℕ → ℕ → Option (StopTime × ℕ)
line_from row rest at = let line = before newline rest in cond (has newline rest) (with_next (row line) (at + length line + 1)) None

-- it is wrong unless a newline ends it and it is a row
line_wrong : (ended : Bool) (row : Option StopTime) (next : ℕ) → (ended ≡ true → row ≡ None) → cond ended (with_next row next) None ≡ None
line_wrong true row next h = rw (h refl)
line_wrong false row next h = refl

-- a reader that reads no word with a newline
abbrev pub OneLine : (List ℕ → Option ℕ) → Type 0
OneLine read = (w : List ℕ) (n : ℕ) → read w ≡ Some n → has newline w ≡ false

-- a row that is none without a column or with nothing after it
pub record Needed (row : Option ℕ → List ℕ → Option StopTime) : Type 0 where
  pub unread : (line : List ℕ) → row None line ≡ None
  pub missing : (n : ℕ) → row (Some n) [] ≡ None

nothing_after : {row : Option ℕ → List ℕ → Option StopTime} → Needed row → (number : Option ℕ) → row number [] ≡ None
nothing_after needed (Some n) = needed.missing n
nothing_after needed None = needed.unread []

-- a column that a comma ends, and the rest of the line
module _ (read : List ℕ → Option ℕ) (row : Option ℕ → List ℕ → Option StopTime) where
  abbrev pub column_then : List ℕ → Option StopTime
  column_then line = row (read (before comma line)) (after comma line)

  -- a word and its comma in front of the rest
  word_then : (w rest : List ℕ) (at : ℕ) → has comma w ≡ false → has newline w ≡ false
      → line_from column_then (w ++ comma ∷ rest) at ≡ line_from (row (read w)) rest (at + length w + 1)
  unfolding has before
  word_then w rest at h k =
      let line = before newline rest in
      let e : at + length (w ++ comma ∷ line) + 1 ≡ at + length w + 1 + length line + 1 = omega (arith, length-append w (comma ∷ line)) in
      rw (
        has_either newline w (comma ∷ rest),
        k,
        before_second newline w (comma ∷ rest) k,
        before_end comma w line h,
        after_end comma w line h,
        e,
      )

  -- a line with its newline in front of a text whose first column is not read: that is the line's own, or the line has no comma
  line_unread : (line text : List ℕ)
      → (has comma (line ++ newline ∷ text) ≡ true → read (before comma (line ++ newline ∷ text)) ≡ None)
      → Needed row → (b : Bool) → has comma line ≡ b → column_then line ≡ None
  line_unread line text u needed true h =
      let own = u (rw (has_either comma line (newline ∷ text), h)) in
      rw (rw (before_first comma line (newline ∷ text) h) at own) (needed.unread (after comma line))
  line_unread line text u needed false h = rw (after_none comma line h) (nothing_after needed (read (before comma line)))

  module _ (text : List ℕ) (at : ℕ) where
    pub read_then : {n next : ℕ} → OneLine read → column_of read comma text at ≡ Some (n, next)
        → line_from column_then (drop at text) at ≡ line_from (row (Some n)) (drop next text) next
    read_then {n} one is =
        let rest = drop at text in
        let w = before comma rest in
        let r = column_read read comma text at is in
        ap (λ t. line_from column_then t at) (cut_whole comma rest r.0)
        ∙ word_then w (after comma rest) at (before_without comma rest) (one w n r.1)
        ∙ rw (r.1, r.2, piece_after comma text at (at + length w) refl)

    pub unread_then : Needed row → column_of read comma text at ≡ None → line_from column_then (drop at text) at ≡ None
    unread_then needed is =
        let rest = drop at text in
        let l = before newline rest in
        line_wrong (has newline rest) (column_then l) (at + length l + 1)
        (λ (h : has newline rest ≡ true).
        line_unread
        l
        (after newline rest)
        (rw (← cut_whole newline rest h) (column_unread read comma text at is))
        needed
        (has comma l)
        refl)

-- the last column, which the newline ends
module _ (read : List ℕ → Option ℕ) (row : Option ℕ → Option StopTime) (text : List ℕ) (at : ℕ) where
  pub last_read : {n next : ℕ} → column_of read newline text at ≡ Some (n, next)
      → line_from (λ l. row (read l)) (drop at text) at ≡ with_next (row (Some n)) next
  last_read is = let r = column_read read newline text at is in rw (r.0, r.1, r.2)

  pub last_unread : row None ≡ None → column_of read newline text at ≡ None → line_from (λ l. row (read l)) (drop at text) at ≡ None
  last_unread unread is =
      let rest = drop at text in
      let l = before newline rest in
      line_wrong (has newline rest) (row (read l)) (at + length l + 1)
      (λ (h : has newline rest ≡ true). rw (column_unread read newline text at is h) unread)

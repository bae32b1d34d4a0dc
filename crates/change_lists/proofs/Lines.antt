-- Laws of a text of transfer times line by line: what a line that starts at a place is. Assumes nothing.
use Rattle.std.proofs.Common.{◌≡◌, ℕ, suc, ◌+◌, ◌<◌, ◌≤◌, true, false, List, [], ◌∷◌, length, drop, Some, None, Err, refl, ◌∙◌, ⊎_elim, arith, length-drop, ne_eqb}
use Rattle.decimals.specs.Bytes.{newline}
use Rattle.decimals.specs.Decimal.{decimal}
use Rattle.decimals.proofs.Reading.{decimal_none}
use Rattle.timetable.proofs.Tests.{by_lt, by_bool}
use Rattle.cuts.specs.Cut.{has, before, lines_of}
use Rattle.cuts.specs.Columns.{column_of}
use Rattle.gtfs.specs.StopTimes.{number_in}
use Rattle.cuts.proofs.Cut.{lines_cut, lines_last, lines_some}
use Rattle.cuts.proofs.Pieces.{piece_after}
use Rattle.cuts.proofs.Columns.{column_read, column_unread}
use Rattle.change_lists.specs.ChangeText.{line_numbers, lines_read, NumberLine}

-- the one line of no text
pub no_line : lines_of [] ≡ [] ∷ []
unfolding has
no_line = lines_last [] refl

-- a line in front of a text
pub numbers_more : (l t : List ℕ) → line_numbers (l ∷ lines_of t) ≡ number_in (decimal l) ∷ line_numbers (lines_of t)
unfolding line_numbers
numbers_more l t = let s = lines_some t in rw s.2

pub read_more : (l t : List ℕ) (n : ℕ) → decimal l ≡ Some n → (k bytes : ℕ)
    → lines_read k bytes (l ∷ lines_of t) ≡ lines_read (suc k) bytes (lines_of t)
unfolding lines_read
read_more l t n e k bytes = let s = lines_some t in rw (s.2, e)

read_wrong : (l t : List ℕ) → decimal l ≡ None → (k bytes : ℕ) → lines_read k bytes (l ∷ lines_of t) ≡ Err k
unfolding lines_read
read_wrong l t e k bytes = let s = lines_some t in rw (s.2, e)

module _ (text : List ℕ) (at : ℕ) where
  -- the rest of the text, and its first line
  abbrev rest : List ℕ
  rest = drop at text

  abbrev line : List ℕ
  line = before newline rest

  -- a newline ends it
  cut : has newline rest ≡ true → {next : ℕ} → next ≡ at + length line + 1 → lines_of rest ≡ line ∷ lines_of (drop next text)
  cut h e = lines_cut rest h ∙ rw (e, piece_after newline text at (at + length line) refl)

  -- a line that is read as a number, and one that is not or that no newline ends
  pub line_read : {n next : ℕ} → column_of decimal newline text at ≡ Some (n, next) → next ≤ length text → NumberLine n next text at
  line_read {n} {next} is within =
      let r = column_read decimal newline text at is in
      record {
        longer =
            ⊎_elim
            (λ (g : 0 < length line). omega (arith, r.2))
            (λ (g : length line ≤ 0).
            let none = decimal_none line (omega arith) in
            let z : ◌≡◌ {A = ℕ} 0 1 = cc (r.1, none) in
            absurd (omega arith))
            (by_lt 0 (length line));
        within = within;
        numbers = rw (cut r.0 r.2) (numbers_more line (drop next text) ∙ rw r.1);
        goes_on = λ (k bytes : ℕ). rw (cut r.0 r.2) (read_more line (drop next text) n r.1 k bytes);
      }

  pub line_wrong : at < length text → column_of decimal newline text at ≡ None → (k bytes : ℕ)
      → lines_read k bytes (lines_of rest) ≡ Err k
  unfolding lines_read
  line_wrong s is k bytes =
      ⊎_elim
      (λ (h : has newline rest ≡ true).
      rw (cut h refl) (read_wrong line (drop (at + length line + 1) text) (column_unread decimal newline text at is h) k bytes))
      (λ (h : has newline rest ≡ false).
      let some = ne_eqb (length rest) 0 (omega (arith, length-drop at text)) in rw (lines_last rest h, some))
      (by_bool (has newline rest))

-- what the reading of a text goes by
pub ruleset lines = (line_read, line_wrong)

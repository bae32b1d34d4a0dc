-- A text of transfer times read line by line: what is read of it, one line more, and how it ends. Assumes nothing.
use Rattle.std.proofs.Common.{◌≡◌, ℕ, suc, ◌+◌, ◌*◌, ◌/◌, ◌%◌, ◌<◌, ◌≤◌, List, [], ◌∷◌, length, get_or, take, drop, None, Ok, Err, sym, refl, ap, ◌∙◌, add-one, arith, length-drop, drop_of_length-le, take_all, drop-cons}
use Rattle.std.specs.Int.{w16, to_le_bytes}
use Rattle.numbers.specs.Numbers.{byte_size, over_bytes}
use Rattle.numbers.proofs.Areas.{length_over_bytes}
use Rattle.numbers.proofs.Bytes.{over_fitting}
use Rattle.numbers.proofs.Turns.{bytes_turn}
use Rattle.labels.proofs.Texts.{text_copied}
use borrow.Rule.Slice.PartMut.{put_mid}
use Rattle.cuts.specs.Cut.{lines_of}
use Rattle.change_lists.specs.ChangeText.{line_numbers, lines_read, change_numbers, NumberLine, LineRead, ChangesRead}
use Rattle.change_lists.proofs.Lines.{no_line}

-- a number's two bytes, the low one first
pub two_bytes : (n : ℕ) → n < 65536 → to_le_bytes w16 n ≡ n % byte_size ∷ n / byte_size ∷ []
two_bytes n h = let e : n / 256 % 256 ≡ n / 256 = omega arith in ap (λ (b : ℕ). n % 256 ∷ b ∷ []) e

-- the lines up to a place are read, and their numbers stand at the front of an area: what is left gives what the whole gave
pub record Reading (text before after : List ℕ) (line at : ℕ) : Type 0 where
  pub place : at ≤ length text
  pub short : 2 * line ≤ at
  pub counted : line ≤ length (change_numbers text)
  pub left : drop line (change_numbers text) ≡ change_numbers (drop at text)
  pub goes_on : (bytes : ℕ) → lines_read 1 bytes (lines_of text) ≡ lines_read (suc line) bytes (lines_of (drop at text))
  pub stands : after ≡ over_bytes (take line (change_numbers text)) before

pub reading_starts : (text before : List ℕ) → Reading text before before 0 0
unfolding over_bytes
reading_starts text before = record {
  place = omega arith;
  short = omega arith;
  counted = omega arith;
  left = refl;
  goes_on = λ (bytes : ℕ). refl;
  stands = refl;
}

module _ {text before after : List ℕ} {line at : ℕ} (r : Reading text before after line at) where
  -- the area keeps its length
  pub reading_length : length after ≡ length before
  reading_length = rw r.stands (length_over_bytes (take line (change_numbers text)) before)

  -- one line more
  pub reading_turn : length text ≤ length before → {n next : ℕ} → NumberLine n next text at → {bytes : List ℕ}
      → bytes ≡ n % byte_size ∷ n / byte_size ∷ [] → {k : ℕ} → k ≡ 2
      → Reading text before (put_mid (2 * line) k after bytes) (line + 1) next
  reading_turn fits {n} {next} l {bytes} b {k} two =
      let ns = change_numbers text in
      let e : drop line ns ≡ n ∷ change_numbers (drop next text) = r.left ∙ l.numbers in
      let h : line < length ns = omega (arith, length-drop line ns, ap length e) in
      let d = sym e ∙ drop-cons ns line 0 h in
      let v : n ≡ get_or ns line 0 = cc d in
      let w = text_copied after (n % byte_size ∷ n / byte_size ∷ []) bytes (2 * line) k b two (omega (arith, r.short, l.longer, l.within, reading_length)) in
      record {
        place = l.within;
        short = omega (arith, r.short, l.longer);
        counted = omega arith;
        left = rw (add-one line) (cc d);
        goes_on = λ (bytes : ℕ). rw (add-one line) (r.goes_on bytes ∙ l.goes_on (suc line) bytes);
        stands = w.stands ∙ rw (r.stands, v, ← add-one (2 * line)) (bytes_turn ns before line h (omega (arith, r.short, l.longer, l.within)));
      }

  -- a wrong line
  pub reading_wrong : LineRead None text at → ChangesRead (Err (line + 1)) after before text
  reading_wrong w = record {
    told = rw (add-one line) (sym (r.goes_on _ ∙ w (suc line) _));
    within = λ (n : ℕ) e. absurd (let z : ◌≡◌ {A = ℕ} 0 1 = cc in omega arith);
    stands = λ (n : ℕ) e. cc;
  }

  -- no line is left
  pub reading_ends : length text ≤ length before → length text ≤ at → ChangesRead (Ok (2 * line)) after before text
  unfolding line_numbers lines_read
  reading_ends fits h =
      let ns = change_numbers text in
      let d : drop at text ≡ [] = drop_of_length-le text {i = at} h in
      let e : drop line ns ≡ [] = r.left ∙ rw (d, no_line) in
      let all : line ≡ length ns = omega (arith, length-drop line ns, ap length e, r.counted) in
      let over : after ≡ over_bytes ns before = r.stands ∙ rw (take_all line ns (omega arith)) in
      record {
        told = sym (r.goes_on (2 * length ns) ∙ rw (d, no_line, ← all));
        within = λ (n : ℕ) (b : Ok (2 * line) ≡ Ok n).
            let same : 2 * line ≡ n = cc in
            omega (arith, ap length over, length_over_bytes ns before, r.short, r.place);
        stands = λ (n : ℕ) (b : Ok (2 * line) ≡ Ok n).
            let same : 2 * line ≡ n = cc in
            over ∙ over_fitting ns before (omega (arith, r.short, r.place)) ∙ rw (← same, ← all);
      }

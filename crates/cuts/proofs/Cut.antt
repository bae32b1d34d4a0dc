-- Laws of texts cut at a byte, of their pieces and of how they start. Assumes nothing.
use Rattle.std.proofs.Common.{◌≡◌, ℕ, zero, suc, ◌<◌, ◌≤◌, true, false, ◌||◌, eqb, ltb, List, [], ◌∷◌, ◌++◌, length, get_or, take, drop, Some, None, sym, refl, ap, ◌∙◌, ⊎_elim, arith, drop-cons, lt-ltb, eq-eqb, eqb-true}
use mathlib.Core.Bool.{and-false, or-true, or_assoc}
use lib.Dec.{leb-suc-suc}
use Rattle.decimals.specs.Bytes.{newline}
use Rattle.decimals.specs.Decimal.{is_digit, all_digits, decimal}
use Rattle.cuts.specs.Cut.{has, before, after, starts_with, on_first, pieces, lines_of}
use Rattle.timetable.proofs.Tests.{by_bool, and_left, and_right, not_both, both_fail}

module _ (byte : ℕ) where
  -- a text without the byte: neither the first is it, nor do the others have it
  pub has_none : (b : ℕ) (bs : List ℕ) → has byte (b ∷ bs) ≡ false → (eqb b byte ≡ false) × (has byte bs ≡ false)
  unfolding has
  has_none b bs h = both_fail (eqb b byte) (has byte bs) h

  -- a text from a place on: the byte there is it, or the others have it
  pub has_at : (t : List ℕ) (i : ℕ) → i < length t → has byte (drop i t) ≡ eqb (get_or t i 0) byte || has byte (drop (suc i) t)
  unfolding has
  has_at t i h = rw (drop-cons t i 0 h)

  -- what stands before the byte is the front of the text, what stands after it the rest
  pub before_take : (t : List ℕ) → before byte t ≡ take (length (before byte t)) t
  unfolding before
  before_take [] = refl
  before_take (b ∷ bs) = ⊎_elim (λ e. rw e) (λ e. rw e (ap (◌∷◌ b) (before_take bs))) (by_bool (eqb b byte))

  -- with the byte
  pub before_cut : (t : List ℕ) → has byte t ≡ true → take (suc (length (before byte t))) t ≡ before byte t ++ byte ∷ []
  unfolding has before
  before_cut [] h = absurd (not_both h refl)
  before_cut (b ∷ bs) h =
      ⊎_elim
      (λ e. rw (eqb-true b byte e, eq-eqb byte byte refl))
      (λ e. rw e (ap (◌∷◌ b) (before_cut bs (rw e at h))))
      (by_bool (eqb b byte))

  pub after_drop : (t : List ℕ) → after byte t ≡ drop (suc (length (before byte t))) t
  unfolding before after
  after_drop [] = refl
  after_drop (b ∷ bs) = ⊎_elim (λ e. rw e) (λ e. rw e (after_drop bs)) (by_bool (eqb b byte))

  pub before_within : (t : List ℕ) → length (before byte t) ≤ length t
  unfolding before
  before_within [] = omega arith
  before_within (b ∷ bs) = ⊎_elim (λ e. rw e (omega arith)) (λ e. rw e (omega (arith, before_within bs))) (by_bool (eqb b byte))

  -- a text has the byte where what stands before it ends inside the text
  pub has_end : (t : List ℕ) → has byte t ≡ ltb (length (before byte t)) (length t)
  unfolding has before
  has_end [] = refl
  has_end (b ∷ bs) =
      ⊎_elim
      (λ e. rw (e, lt-ltb 0 (suc (length bs)) (omega arith)))
      (λ e. rw e (has_end bs ∙ sym (leb-suc-suc (suc (length (before byte bs))) (length bs))))
      (by_bool (eqb b byte))

  -- a text without the byte, then the byte, then another text
  pub before_end : (s t : List ℕ) → has byte s ≡ false → before byte (s ++ byte ∷ t) ≡ s
  unfolding has before
  before_end [] t h = rw (eq-eqb byte byte refl)
  before_end (b ∷ s) t h = let n = has_none b s h in rw n.0 (ap (◌∷◌ b) (before_end s t n.1))

  pub after_end : (s t : List ℕ) → has byte s ≡ false → after byte (s ++ byte ∷ t) ≡ t
  unfolding has after
  after_end [] t h = rw (eq-eqb byte byte refl)
  after_end (b ∷ s) t h = let n = has_none b s h in rw n.0 (after_end s t n.1)

  pub has_cut : (s t : List ℕ) → has byte (s ++ byte ∷ t) ≡ true
  unfolding has
  has_cut [] t = rw (eq-eqb byte byte refl)
  has_cut (b ∷ s) t = rw (has_cut s t, or-true)

  -- a text with the byte is what stands before it, the byte and what stands after it
  pub cut_whole : (t : List ℕ) → has byte t ≡ true → t ≡ before byte t ++ byte ∷ after byte t
  unfolding has before after
  cut_whole [] h = absurd (not_both h refl)
  cut_whole (b ∷ bs) h =
      ⊎_elim
      (λ e. rw e (ap (λ c. c ∷ bs) (eqb-true b byte e)))
      (λ e. rw e (ap (◌∷◌ b) (cut_whole bs (rw e at h))))
      (by_bool (eqb b byte))

  -- what stands before the byte is without it
  pub before_without : (t : List ℕ) → has byte (before byte t) ≡ false
  unfolding has before
  before_without [] = refl
  before_without (b ∷ bs) = ⊎_elim (λ e. rw e) (λ e. rw e (rw e (before_without bs))) (by_bool (eqb b byte))

  -- nothing stands after the byte in a text without it
  pub after_none : (t : List ℕ) → has byte t ≡ false → after byte t ≡ []
  unfolding has after
  after_none [] h = refl
  after_none (b ∷ bs) h = let n = has_none b bs h in rw n.0 (after_none bs n.1)

  -- a text in front of another: the byte is in either; where the first has it, it is cut there, and else in the second
  pub has_either : (s t : List ℕ) → has byte (s ++ t) ≡ has byte s || has byte t
  unfolding has
  has_either [] t = refl
  has_either (b ∷ s) t = rw (has_either s t) (sym (or_assoc (eqb b byte) (has byte s) (has byte t)))

  pub before_first : (s t : List ℕ) → has byte s ≡ true → before byte (s ++ t) ≡ before byte s
  unfolding has before
  before_first [] t h = absurd (not_both h refl)
  before_first (b ∷ s) t h = ⊎_elim (λ e. rw e) (λ e. rw e (ap (◌∷◌ b) (before_first s t (rw e at h)))) (by_bool (eqb b byte))

  pub before_second : (s t : List ℕ) → has byte s ≡ false → before byte (s ++ t) ≡ s ++ before byte t
  unfolding has before
  before_second [] t h = refl
  before_second (b ∷ s) t h = let n = has_none b s h in rw n.0 (ap (◌∷◌ b) (before_second s t n.1))

  -- two texts without the byte
  pub has_append : (s t : List ℕ) → has byte s ≡ false → has byte t ≡ false → has byte (s ++ t) ≡ false
  has_append s t h k = rw (has_either s t, h, k)

  -- the front of a text without the byte
  pub has_take : (n : ℕ) (t : List ℕ) → has byte t ≡ false → has byte (take n t) ≡ false
  unfolding has
  has_take zero t h = refl
  has_take (suc n) [] h = refl
  has_take (suc n) (b ∷ bs) h = let m = has_none b bs h in rw m.0 (has_take n bs m.1)

  -- digits are without a byte that is none
  pub digits_without : (w : List ℕ) → is_digit byte ≡ false → all_digits w ≡ true → has byte w ≡ false
  unfolding has all_digits
  digits_without [] h d = refl
  digits_without (b ∷ bs) h d =
      ⊎_elim
      (λ e. absurd (not_both (and_left (is_digit b) (all_digits bs) d) (rw (eqb-true b byte e) h)))
      (λ e. rw e (digits_without bs h (and_right (is_digit b) (all_digits bs) d)))
      (by_bool (eqb b byte))

  -- and so is a word that is read as a number
  pub number_without : is_digit byte ≡ false → (w : List ℕ) (n : ℕ) → decimal w ≡ Some n → has byte w ≡ false
  unfolding decimal
  number_without h w n e =
      ⊎_elim
      (λ (d : all_digits w ≡ true). digits_without w h d)
      (λ (d : all_digits w ≡ false). let u : decimal w ≡ None = rw (d, and-false) in cc)
      (by_bool (all_digits w))

  -- the pieces of a text with the byte, and of one without
  pub pieces_cut : (t : List ℕ) → has byte t ≡ true → pieces byte t ≡ before byte t ∷ pieces byte (after byte t)
  unfolding has before after pieces
  pieces_cut [] h = absurd (not_both h refl)
  pieces_cut (b ∷ bs) h = ⊎_elim (λ e. rw e) (λ e. rw e (ap (on_first b) (pieces_cut bs (rw e at h)))) (by_bool (eqb b byte))

  pub pieces_last : (t : List ℕ) → has byte t ≡ false → pieces byte t ≡ t ∷ []
  unfolding has pieces
  pieces_last [] h = refl
  pieces_last (b ∷ bs) h = let n = has_none b bs h in rw n.0 (ap (on_first b) (pieces_last bs n.1))

  -- a text has a piece
  pub pieces_some : (t : List ℕ) → (p : List ℕ) × (ps : List (List ℕ)) × (pieces byte t ≡ p ∷ ps)
  pieces_some t =
      ⊎_elim
      (λ h. (before byte t, pieces byte (after byte t), pieces_cut t h))
      (λ h. (t, [], pieces_last t h))
      (by_bool (has byte t))

  -- a piece and the byte in front of a text
  pub piece_more : (p t : List ℕ) → has byte p ≡ false → pieces byte (p ++ byte ∷ t) ≡ p ∷ pieces byte t
  piece_more p t h = pieces_cut (p ++ byte ∷ t) (has_cut p t) ∙ rw (before_end p t h, after_end p t h)

-- the same of lines
pub lines_cut : (t : List ℕ) → has newline t ≡ true → lines_of t ≡ before newline t ∷ lines_of (after newline t)
lines_cut = pieces_cut newline

pub lines_last : (t : List ℕ) → has newline t ≡ false → lines_of t ≡ t ∷ []
lines_last = pieces_last newline

pub lines_some : (t : List ℕ) → (l : List ℕ) × (ls : List (List ℕ)) × (lines_of t ≡ l ∷ ls)
lines_some = pieces_some newline

pub line_more : (l t : List ℕ) → has newline l ≡ false → lines_of (l ++ newline ∷ t) ≡ l ∷ lines_of t
line_more = piece_more newline

-- a text that starts with another is that one and the rest
pub starts_append : (s t : List ℕ) → starts_with s t ≡ true → t ≡ s ++ drop (length s) t
unfolding starts_with
starts_append [] t h = refl
starts_append (b ∷ bs) [] h = absurd (not_both h refl)
starts_append (b ∷ bs) (c ∷ t) h =
    rw (eqb-true b c (and_left (eqb b c) (starts_with bs t) h)) (ap (◌∷◌ c) (starts_append bs t (and_right (eqb b c) (starts_with bs t) h)))

pub starts_with_lem : (s t : List ℕ) → starts_with s (s ++ t) ≡ true
unfolding starts_with
starts_with_lem [] t = refl
starts_with_lem (b ∷ bs) t = rw (eq-eqb b b refl) (starts_with_lem bs t)

-- A piece of a text, from a place to where it ends: at a byte, or with the text. Assumes nothing.
use Rattle.std.proofs.Common.{◌≡◌, ℕ, suc, ◌+◌, ◌-◌, ◌<◌, ◌≤◌, true, false, List, [], ◌∷◌, length, take, drop, sym, refl, ap, ◌∙◌, arith, length-drop, drop-drop, le-ltb, lt-ltb}
use Rattle.std.proofs.lemmas.List.{take_all}
use Rattle.cuts.specs.Cut.{has, before, after}
use Rattle.cuts.proofs.Cut.{has_none, before_take, after_drop, before_within, has_end}

module _ (byte : ℕ) (text : List ℕ) (at end : ℕ) (ends : end ≡ at + length (before byte (drop at text))) where
  -- what stands in it is what stands before the byte
  pub piece_taken : take (end - at) (drop at text) ≡ before byte (drop at text)
  piece_taken = let e : end - at ≡ length (before byte (drop at text)) = omega arith in rw e (sym (before_take byte (drop at text)))

  -- what stands after the byte starts behind its end
  pub piece_after : drop (end + 1) text ≡ after byte (drop at text)
  piece_after =
      let k = length (before byte (drop at text)) in
      let e : end + 1 ≡ at + suc k = omega arith in
      rw e (sym (after_drop byte (drop at text) ∙ drop-drop (suc k) at text))

  -- it ends at the byte inside the text, or with the text
  pub piece_cut : end < length text → has byte (drop at text) ≡ true
  piece_cut h = has_end byte (drop at text) ∙ lt-ltb _ (length (drop at text)) (rw length-drop (omega arith))

  pub piece_last : length text ≤ end → has byte (drop at text) ≡ false
  piece_last h = has_end byte (drop at text) ∙ le-ltb _ (length (drop at text)) (rw length-drop (omega arith))

  pub piece_within : at ≤ length text → end ≤ length text
  piece_within h = omega (arith, before_within byte (drop at text), length-drop at text)

-- the first piece of a text, which the byte ends, and what stands after it
module _ (byte : ℕ) (text : List ℕ) (end : ℕ) (ends : end ≡ length (before byte text)) where
  pub first_taken : take end text ≡ before byte text
  first_taken = rw ends (sym (before_take byte text))

  pub first_after : take (length text - (end + 1)) (drop (end + 1) text) ≡ after byte text
  first_after =
      let e : end + 1 ≡ suc (length (before byte text)) = omega arith in
      take_all (length text - (end + 1)) (drop (end + 1) text) (rw length-drop (omega arith)) ∙ rw e (sym (after_drop byte text))

  pub first_cut : end < length text → has byte text ≡ true
  first_cut h = has_end byte text ∙ lt-ltb _ (length text) (omega arith)

-- the first piece of a text without the byte is the whole
pub first_whole : (byte : ℕ) (text : List ℕ) → has byte text ≡ false → before byte text ≡ text
unfolding has before
first_whole byte [] h = refl
first_whole byte (b ∷ bs) h = let n = has_none byte b bs h in rw n.0 (ap (◌∷◌ b) (first_whole byte bs n.1))

-- what the first piece of a text goes by
pub ruleset first = (first_taken, first_after, first_cut, first_whole)

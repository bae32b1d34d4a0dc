-- The words of a text, one after the other, and the numbers that they are. Assumes nothing.
use Rattle.std.proofs.Common.{◌≡◌, ℕ, suc, ◌<◌, true, false, List, [], ◌∷◌, ◌++◌, map, length, Some, None, MatchOption, Option, refl, ap, ◌∙◌, arith, length-append, Bor}
use mathlib.Core.List.{foldl}
use Rattle.decimals.specs.Bytes.{space}
use Rattle.decimals.specs.Decimal.{decimal}
use Rattle.cuts.specs.Cut.{has, before, after}
use Rattle.cuts.proofs.Cut.{pieces_cut, pieces_last, cut_whole}
use Rattle.cuts.proofs.Pieces.{first_whole}
use Rattle.meanings.specs.Meanings.{with_number, asked}
use Rattle.meanings.specs.declared.Command.{Command}
use Rattle.meanings.specs.declared.Numbers.{Numbers}
use Rattle.meanings.specs.declared.Numbers.TheVariants.{Zero}
use Rattle.commands.specs.Words.{words}
use Rattle.commands.specs.Commands.{meant}

-- the words of what is left of a text, and how long that is
abbrev pub left : Option (Bor (List ℕ)) → List (List ℕ)
left None = []
left (Some rest) = words rest.now

abbrev pub left_length : Option (Bor (List ℕ)) → ℕ
left_length None = 0
left_length (Some rest) = suc (length rest.now)

-- what is left of a text behind its first piece
abbrev pub Rest : ℕ → List ℕ → Option (Bor (List ℕ)) → Type 0
Rest byte text rest = MatchOption rest (has byte text ≡ false) (λ r. (has byte text ≡ true) × (r.now ≡ after byte text))

-- is shorter than the text
pub left_shorter : (byte : ℕ) (text : List ℕ) (rest : Option (Bor (List ℕ))) → Rest byte text rest → left_length rest < suc (length text)
left_shorter byte text None h = omega arith
left_shorter byte text (Some r) h =
    let e : length text ≡ length (before byte text ++ byte ∷ after byte text) = ap length (cut_whole byte text h.0) in
    rw h.1 (omega (arith, e, length-append (before byte text) (byte ∷ after byte text)))

-- and has the words behind the first one
pub words_first : (text word : List ℕ) (rest : Option (Bor (List ℕ))) → word ≡ before space text → Rest space text rest
    → words text ≡ word ∷ left rest
words_first text word None first h = pieces_last space text h ∙ rw (first, first_whole space text h)
words_first text word (Some r) first h = pieces_cut space text h.0 ∙ rw (first, h.1)

-- what a first word says with numbers and the words that are left
abbrev pub said : List ℕ → Option Numbers → List (List ℕ) → Option Command
said first numbers ws = asked first (foldl with_number numbers (map decimal ws))

-- at the first word there is no number yet
pub said_first : (text first : List ℕ) (ws : List (List ℕ)) → words text ≡ first ∷ ws → meant (words text) ≡ said first (Some Zero) ws
unfolding meant
said_first text first ws e = rw e

-- the next word is one more number, or none
pub said_next : (first word : List ℕ) (ws more : List (List ℕ)) (numbers next : Option Numbers) → ws ≡ word ∷ more
    → next ≡ with_number numbers (decimal word) → said first numbers ws ≡ said first next more
said_next first word ws more numbers next e h = rw (e, h)

-- where there are no numbers, no word after that makes any
none_more : (o : Option ℕ) → with_number None o ≡ None
none_more None = refl
none_more (Some n) = refl

none_stays : (ws : List (List ℕ)) → foldl with_number None (map decimal ws) ≡ None
none_stays [] = refl
none_stays (w ∷ ws) = ap (λ n. foldl with_number n (map decimal ws)) (none_more (decimal w)) ∙ none_stays ws

-- a next word that is no number, or one too many, says nothing, whatever comes after it
module _ (first word : List ℕ) (ws more : List (List ℕ)) (numbers : Numbers) (o : Option ℕ) (e : ws ≡ word ∷ more) (d : o ≡ decimal word) where
  pub said_none : with_number (Some numbers) o ≡ None → said first (Some numbers) ws ≡ None
  unfolding asked
  said_none h = rw (e, ← d) (ap (λ n. said first n more) h ∙ ap (asked first) (none_stays more))

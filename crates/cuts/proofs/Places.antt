-- Where the piece of a text ends, and whether a text starts with another, in the words of the library. Assumes nothing.
use Rattle.std.proofs.Common.{◌≡◌, ℕ, suc, ◌+◌, ◌<◌, ◌≤◌, false, eqb, List, [], ◌∷◌, length, get_or, take, drop, refl, add-one, drop_of_length-le, drop-cons, eq-eqb, ne_eqb, arith}
use mathlib.Core.Bool.{and-false}
use Rattle.std.proofs.lemmas.List.{take_all}
use Rattle.std.specs.List as list
use Rattle.cuts.specs.Cut.{before, starts_with}
use Rattle.cuts.proofs.Pieces.{piece_last}

module _ (byte : ℕ) (text : List ℕ) (i : ℕ) where
  -- the piece ends at the byte
  pub piece_stops : i < length text → get_or text i 0 ≡ byte → length (before byte (drop i text)) ≡ 0
  unfolding before
  piece_stops h e = rw (drop-cons text i 0 h, eq-eqb _ _ e)

  -- the piece goes on with another byte
  pub piece_goes_on : i < length text → (get_or text i 0 ≡ byte → ⊥)
      → length (before byte (drop i text)) ≡ suc (length (before byte (drop (i + 1) text)))
  unfolding before
  piece_goes_on h e = rw (drop-cons text i 0 h, ne_eqb _ _ e, add-one i)

  -- the piece ends with the text
  pub piece_ends : length text ≤ i → length (before byte (drop i text)) ≡ 0
  unfolding before
  piece_ends h = rw (drop_of_length-le text {i = i} h)

-- what the search of a piece's end goes by
pub ruleset places = (piece_stops, piece_goes_on, piece_ends, piece_last)

-- whether a text starts with another is what the library tests
pub starts_same : (s t : List ℕ) → list.starts_with eqb t s ≡ starts_with s t
unfolding starts_with
starts_same [] t = refl
starts_same (b ∷ s) [] = refl
starts_same (b ∷ s) (c ∷ t) = rw (starts_same s t)

-- so it is by the other text cut at its length or further on
pub starts_whole : (n : ℕ) (s t : List ℕ) → length s ≤ n → list.starts_with eqb t (take n s) ≡ starts_with s t
starts_whole n s t h = rw (take_all n s h) (starts_same s t)

-- no text starts with a longer one
pub starts_longer : (s t : List ℕ) → length t < length s → starts_with s t ≡ false
unfolding starts_with
starts_longer [] t h = absurd (omega arith)
starts_longer (b ∷ s) [] h = refl
starts_longer (b ∷ s) (c ∷ t) h = rw (starts_longer s t (omega arith), and-false)

-- what the test of a text's start goes by
pub ruleset starts = (starts_same, starts_whole, starts_longer)

-- Two words compared, in the words of the library, and words that no command starts with. Assumes nothing.
use Rattle.std.proofs.Common.{◌≡◌, ℕ, suc, ◌<◌, ◌≤◌, false, List, [], ◌∷◌, length, get_or, Some, None, refl, ap, arith, ne_eqb}
use mathlib.Core.Bool.{and-false}
use Rattle.std.specs.Str.{bytes_eq}
use Rattle.model.specs.Drawn.{same}
use Rattle.meanings.specs.declared.Numbers.{Numbers}
use Rattle.meanings.specs.declared.Numbers.TheVariants.{Zero, One, Two, Three}
use Rattle.meanings.specs.Meanings.{word_p, word_w, word_q, word_m, word_why, asked}

-- whether two words are the same is what the library tests
pub same_words : (s t : List ℕ) → bytes_eq s t ≡ same s t
unfolding same
same_words [] [] = refl
same_words [] (b ∷ t) = refl
same_words (a ∷ s) [] = refl
same_words (a ∷ s) (b ∷ t) = rw (same_words s t)

-- words of other lengths are not the same
other_length : (s t : List ℕ) → (length s ≡ length t → ⊥) → same s t ≡ false
unfolding same
other_length [] [] h = absurd (h refl)
other_length [] (b ∷ t) h = refl
other_length (a ∷ s) [] h = refl
other_length (a ∷ s) (b ∷ t) h = rw (other_length s t (λ e. h (ap suc e)), and-false)

-- a word of no command's length asks for nothing
pub no_length : (word : List ℕ) (numbers : Numbers) → (length word ≡ 1 → ⊥) → (length word ≡ 3 → ⊥) → None ≡ asked word (Some numbers)
unfolding asked
no_length word Zero h k = refl
no_length word (One a) h k = rw (other_length word word_w h, other_length word word_why k)
no_length word (Two a b) h k = rw (other_length word word_m h)
no_length word (Three a b c) h k = rw (other_length word word_p h, other_length word word_q h)

-- neither does one of three letters that does not start with w
pub no_three : (word : List ℕ) (numbers : Numbers) → 3 ≤ length word → length word < 4 → (get_or word 0 0 ≡ 119 → ⊥)
    → None ≡ asked word (Some numbers)
unfolding asked same
no_three [] numbers h k d = absurd (omega arith)
no_three (x ∷ word) Zero h k d = refl
no_three (x ∷ word) (One a) h k d = rw (other_length (x ∷ word) word_w (λ e. omega arith), ne_eqb x 119 d)
no_three (x ∷ word) (Two a b) h k d = rw (other_length (x ∷ word) word_m (λ e. omega arith))
no_three (x ∷ word) (Three a b c) h k d =
    rw (other_length (x ∷ word) word_p (λ e. omega arith), other_length (x ∷ word) word_q (λ e. omega arith))

-- what the search of a word's meaning goes by
pub ruleset words = (no_length, no_three)

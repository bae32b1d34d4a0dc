-- A text cut at a byte. A text is the list of its bytes. Assumes nothing.
use Rattle.std.specs.Prelude.{Bool, true, false, cond, ◌&&◌, ◌||◌, List, [], ◌∷◌, ℕ, eqb}
use Rattle.decimals.specs.Bytes.{newline}

-- whether a text has a byte
unfoldable pub has : ℕ → List ℕ → Bool
has byte [] = false
has byte (b ∷ bs) = eqb b byte || has byte bs

-- what stands before the first such byte; the whole text where there is none
unfoldable pub before : ℕ → List ℕ → List ℕ
before byte [] = []
before byte (b ∷ bs) = cond (eqb b byte) [] (b ∷ before byte bs)

-- what stands after the first such byte; nothing where there is none
unfoldable pub after : ℕ → List ℕ → List ℕ
after byte [] = []
after byte (b ∷ bs) = cond (eqb b byte) bs (after byte bs)

-- whether a text starts with another
unfoldable pub starts_with : List ℕ → List ℕ → Bool
starts_with [] text = true
starts_with (b ∷ bs) [] = false
starts_with (b ∷ bs) (c ∷ text) = eqb b c && starts_with bs text

-- a byte in front of the first of some texts
abbrev pub on_first : ℕ → List (List ℕ) → List (List ℕ)
on_first b [] = (b ∷ []) ∷ []
on_first b (t ∷ ts) = (b ∷ t) ∷ ts

-- the pieces of a text: what stands before, between and after such bytes
unfoldable pub pieces : ℕ → List ℕ → List (List ℕ)
pieces byte [] = [] ∷ []
pieces byte (b ∷ bs) = cond (eqb b byte) ([] ∷ pieces byte bs) (on_first b (pieces byte bs))

-- the lines of a text: what stands before each newline, and what stands after the last one
abbrev pub lines_of : List ℕ → List (List ℕ)
lines_of = pieces newline

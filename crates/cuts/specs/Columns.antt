-- A column of a text and the byte that ends it. Assumes nothing.
use Rattle.std.specs.Prelude.{cond, Option, None, option_map, List, ℕ, ◌+◌, length, drop}
use Rattle.cuts.specs.Cut.{has, before}

-- what was read, if it was, and where the next column or line starts
abbrev pub with_next : {A : Type 0} → Option A → ℕ → Option (A × ℕ)
with_next read next = option_map (λ a. (a, next)) read

-- the column of a text that starts at a place, read as a word is read, if such a byte ends it
unfoldable pub column_of : (List ℕ → Option ℕ) → ℕ → List ℕ → ℕ → Option (ℕ × ℕ)
column_of read byte text at =
    let rest = drop at text in
    let word = before byte rest in
    cond (has byte rest) (with_next (read word) (at + length word + 1)) None

-- Where a number is among the rows. Assumes nothing.
use Rattle.std.specs.Prelude.{cond, List, [], ◌∷◌, ℕ, suc, eqb, ◌≡◌, ◌<◌, Option, Some, None}
use Rattle.model.specs.Notices.{count_in, rows_of}
use Rattle.model.specs.declared.Notice.{Notice}

-- the first row of this number, counted from 0; past the last row if there is none
unfoldable pub row_with : ℕ → List Notice → ℕ
row_with m [] = 0
row_with m (n ∷ ns) = cond (eqb n.number m) 0 (suc (row_with m ns))

-- the row of an area that has a number, if one has it
abbrev pub RowFound : List ℕ → ℕ → Option ℕ → Type 0
RowFound area m None = row_with m (rows_of area) ≡ count_in area
RowFound area m (Some k) = (k ≡ row_with m (rows_of area)) × (k < count_in area)

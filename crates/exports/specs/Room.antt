-- What the writing of a connection's rows needs. Assumes nothing.
use Rattle.std.specs.Prelude.{◌≡◌, List, ℕ, ◌+◌, ◌<◌, ◌≤◌, length}
use Rattle.gtfs.specs.Rows.{position, rows_at, rows_text}

-- the rows of connection c of n, before which p connections of its trip stand, fit into an area from a place on
pub record RowsFit (f : List ℕ) (n c p at : ℕ) (text : List ℕ) : Type 0 where
  pub below : c < n
  pub place : p ≡ position f c
  pub room : at + length (rows_text (rows_at f c)) ≤ length text

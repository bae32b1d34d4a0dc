-- What a notice area has to be for its rows to be read. Assumes nothing.
use Rattle.std.specs.Prelude.{List, [], ◌∷◌, ℕ, max, suc, ◌≤◌, length}
use native.Mathlib.Nat.{ℕ_set}
use native.Mathlib.Bridge.{le_prop}
use mathlib.Core.List.{is_set}
use mathlib.Core.HLevel.{Unit-prop}
use Rattle.model.specs.Notices.{room, notices_length, count_in, rows_of, Ascending, Standing}
use Rattle.model.specs.declared.Notice.{Notice}

-- an area of its stated length or more, whose count there is room for
pub record CountFits (area : List ℕ) : Type 0 where
  pub long : notices_length ≤ length area
  pub fits : count_in area ≤ room

-- more than each connection that rows name
unfoldable pub past_all : List Notice → ℕ
past_all [] = 0
past_all (n ∷ ns) = max (suc n.connection) (past_all ns)

-- an area whose rows stand, with any connections
abbrev pub RowsStand : List ℕ → Type 0
RowsStand area = Standing (past_all (rows_of area)) area

-- a fact about rows that stand has one proof
ascending_prop : (C before : ℕ) (ns : List Notice) → IsProp (Ascending C before ns)
ascending_prop C before [] = Unit-prop
ascending_prop C before (n ∷ ns) = hlevel (ascending_prop C n.number ns, le_prop)

pub standing_prop : (C : ℕ) (area : List ℕ) → IsProp (Standing C area)
standing_prop C area = hlevel (ascending_prop, is_set ℕ_set, le_prop)

pub rows_prop : (area : List ℕ) → IsProp (RowsStand area)
rows_prop area = standing_prop (past_all (rows_of area)) area

-- A connection after the one before it, in the code's numbers: c and c - 1. Assumes nothing.
use Rattle.std.specs.Prelude.{ℕ, ◌-◌, ◌<◌, Bool, true, false, List}
use Rattle.timetable.specs.File.{trip}
use Rattle.timetable.specs.Check.{max_connections}

-- connection c comes after one with a trip below c
pub record ComesAfter (f : List ℕ) (c : ℕ) : Type 0 where
  pub later : 0 < c
  pub few : c < max_connections
  pub trips : trip f (c - 1) < c

-- all sixteen bits where the test holds, else none
abbrev pub mask_if : Bool → ℕ
mask_if true = 65535
mask_if false = 0

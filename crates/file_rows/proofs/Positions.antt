-- The position of a connection by the one before it. Assumes nothing.
use Rattle.std.proofs.Common.{◌≡◌, ℕ, zero, suc, ◌+◌, ◌≤◌, true, List, sym, ◌∙◌, add-one, arith}
use Rattle.timetable.specs.File.{stays_aboard}
use Rattle.gtfs.specs.Rows.{position}
use Rattle.gtfs.proofs.Rows.{position_next, position_low, position_first}
use Rattle.file_rows.specs.Positions.{last_position}

module _ (f : List ℕ) where
  -- where its trip goes on, one more
  pub position_after : (c : ℕ) → stays_aboard f c ≡ true → last_position f c + 1 ≡ position f c
  unfolding stays_aboard
  position_after zero h = absurd (let z : ◌≡◌ {A = ℕ} 0 1 = cc in omega arith)
  position_after (suc c) h = add-one (position f c) ∙ sym (position_next f c h)

  pub last_low : (c : ℕ) → last_position f c ≤ c
  last_low zero = omega arith
  last_low (suc c) = omega (arith, position_low f c)

  -- the position before the next connection
  pub last_next : (c : ℕ) → last_position f (c + 1) ≡ position f c
  last_next c = rw (add-one c)

-- what the position of a connection goes by
pub ruleset turns = (position_after, last_low, position_first)

-- What the writing of a row needs. Assumes nothing.
use Rattle.std.specs.Prelude.{List, ℕ, ◌+◌, ◌*◌, ◌<◌, ◌≤◌, length}
use Rattle.gtfs.specs.Clock.{hour_minutes}
use Rattle.gtfs.specs.StopTimes.{row_text}
use Rattle.gtfs.specs.declared.StopTime.{StopTime}

-- the times with hours of two digits are below
abbrev pub clock_room : ℕ
clock_room = 100 * hour_minutes

-- a row's times have hours of two digits, and it fits into an area from a place on
pub record RowFits (row : StopTime) (at : ℕ) (out : List ℕ) : Type 0 where
  pub arrives : row.arrival < clock_room
  pub departs : row.departure < clock_room
  pub room : at + length (row_text row) ≤ length out

-- How many connections of its trip stand before a connection of a timetable. Assumes nothing.
use Rattle.std.specs.Prelude.{List, ℕ, zero, suc}
use Rattle.gtfs.specs.Rows.{position}

-- the position of the connection before c, 0 before the first
abbrev pub last_position : List ℕ → ℕ → ℕ
last_position f zero = 0
last_position f (suc c) = position f c

-- The room that the longest answer needs. Assumes nothing.
use Rattle.std.specs.Prelude.{ℕ}
use Rattle.timetable.specs.Check.{max_connections}
use Rattle.arrivals.specs.Room.{arrival_room}

-- how much room the longest answer needs: a journey of as many connections as a timetable may have
abbrev pub answer_room : ℕ
answer_room = arrival_room max_connections

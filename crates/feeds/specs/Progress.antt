-- What is known after some rows of a text, and after one row more. Assumes nothing.
use Rattle.std.specs.Prelude.{cond, Option, Some, ◌&&◌, List, ℕ, ◌*◌, ◌^◌, ◌+◌, ◌<◌, ◌≤◌, ltb, eqb}
use Rattle.std.proofs.lemmas.List.Edits.{sets}
use Rattle.std.specs.Option.{option_or}
use Rattle.numbers.specs.Numbers.{bytes_of}
use Rattle.timetable.specs.File.{connection_length}
use Rattle.timetable.specs.Check.{max_connections}
use Rattle.gtfs.specs.declared.StopTime.{StopTime}
use Rattle.gtfs.specs.Feed.{Connection}
use Rattle.gtfs.specs.Files.{numbers_in}
use Rattle.feeds.specs.declared.Progress.{Progress}

-- how many bytes the connections of a timetable have at most
abbrev pub connections_room : ℕ
connections_room = connection_length * max_connections

-- the first row found alone in its trip, where the last row's trip ends with it
abbrev pub alone_after : Progress → Option ℕ
alone_after p = cond p.joined p.alone (option_or p.alone (Some p.row))

-- what is known stays within 64 bits with one row more
pub record Advancing (p : Progress) : Type 0 where
  pub few : p.connections ≤ p.row
  pub fits : p.row + 1 < 2 ^ 64

-- what is known after a row, which goes on in the last trip or begins the next
abbrev pub advanced : Progress → StopTime → Progress
advanced p row =
    let joined = eqb (row.trip + 1) p.trips in
    record {
      row = p.row + 1;
      trips = row.trip + 1;
      stop = row.stop;
      departure = row.departure;
      sequence = row.sequence;
      joined = joined;
      alone = cond joined p.alone (alone_after p);
      connections = p.connections + cond joined 1 0;
    }

-- the connection from the last row to the next one of its trip
abbrev pub connection_to : Progress → StopTime → Connection
connection_to p row =
    record { trip = row.trip; from = p.stop; to = row.stop; departure = p.departure; arrival = row.arrival }

-- the area of connections after a row: the connection that it makes stands in its place, if a timetable may have so many
abbrev pub connected : Progress → StopTime → List ℕ → List ℕ
connected p row area =
    cond (eqb (row.trip + 1) p.trips && ltb p.connections max_connections)
    (sets area (connection_length * p.connections) (bytes_of (numbers_in (connection_to p row))))
    area

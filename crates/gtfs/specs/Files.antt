-- The timetable file of transfer times and connections. Assumes nothing.
use Rattle.std.specs.Prelude.{List, [], ◌∷◌, ◌++◌, ℕ, ◌*◌, length, take, drop}
use Rattle.numbers.specs.Numbers.{bytes_of}
use Rattle.timetable.specs.File.{header_length, stops}
use Rattle.timetable.specs.Check.{format_version}
use Rattle.gtfs.specs.Feed.{Connection}

-- the five numbers of a connection
abbrev pub numbers_in : Connection → List ℕ
numbers_in c = c.trip ∷ c.from ∷ c.to ∷ c.departure ∷ c.arrival ∷ []

-- the numbers of connections, one after the other
unfoldable pub connection_numbers : List Connection → List ℕ
connection_numbers [] = []
connection_numbers (c ∷ cs) = numbers_in c ++ connection_numbers cs

-- the letters TTG
abbrev pub mark : List ℕ
mark = 84 ∷ 84 ∷ 71 ∷ []

-- the file of each stop's minimum transfer time and of connections
unfoldable pub file_of : List ℕ → List Connection → List ℕ
file_of transfers cs = mark ++ bytes_of (format_version ∷ length transfers ∷ length cs ∷ transfers ++ connection_numbers cs)

-- a file's minimum transfer times, as the bytes that it has for them
abbrev pub transfers_in : List ℕ → List ℕ
transfers_in f = take (2 * stops f) (drop header_length f)

-- The timetable file: its fields as functions of its bytes. Document 01's ride is a connection here, its change minutes
-- are a minimum transfer time, its printed times are scheduled times. Assumes nothing.
use Rattle.std.specs.Prelude.{Bool, false, ◌&&◌, List, ℕ, zero, suc, ◌+◌, ◌*◌, eqb, get_or}
use Rattle.numbers.specs.Numbers.{number_at}

-- the header: three letters, version, stop count, connection count
abbrev pub header_length : ℕ
header_length = 9

-- the bytes of one connection
abbrev pub connection_length : ℕ
connection_length = 10

-- the letters TTG
abbrev pub marked : List ℕ → Bool
marked f = eqb (get_or f 0 0) 84 && eqb (get_or f 1 0) 84 && eqb (get_or f 2 0) 71

abbrev pub version : List ℕ → ℕ
version f = number_at f 3

-- how many stops; they are numbered from 0
abbrev pub stops : List ℕ → ℕ
stops f = number_at f 5

-- how many connections (document 01: rides); they are numbered from 0
abbrev pub connections : List ℕ → ℕ
connections f = number_at f 7

-- the length of a file with so many stops and connections
abbrev pub file_length : ℕ → ℕ → ℕ
file_length s c = header_length + 2 * s + connection_length * c

-- the minimum transfer time of stop s (document 01: change minutes)
unfoldable pub transfer_time : List ℕ → ℕ → ℕ
transfer_time f s = number_at f (header_length + 2 * s)

-- where connection c starts in a file with so many stops
abbrev pub place_after : ℕ → ℕ → ℕ
place_after s c = header_length + 2 * s + connection_length * c

-- the k-th of the five numbers of connection c
abbrev pub field : ℕ → List ℕ → ℕ → ℕ
field k f c = number_at f (place_after (stops f) c + 2 * k)

unfoldable pub trip : List ℕ → ℕ → ℕ
trip f c = field 0 f c

unfoldable pub from : List ℕ → ℕ → ℕ
from f c = field 1 f c

unfoldable pub to : List ℕ → ℕ → ℕ
to f c = field 2 f c

unfoldable pub scheduled_departure : List ℕ → ℕ → ℕ
scheduled_departure f c = field 3 f c

unfoldable pub scheduled_arrival : List ℕ → ℕ → ℕ
scheduled_arrival f c = field 4 f c

-- c is the next connection of the same trip after the one before it
unfoldable pub stays_aboard : List ℕ → ℕ → Bool
stays_aboard f zero = false
stays_aboard f (suc c) = eqb (trip f (suc c)) (trip f c)

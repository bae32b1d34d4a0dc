-- How a file is made at the front of an area: what it needs and what it leaves. Assumes nothing.
use Rattle.std.specs.Prelude.{◌≡◌, List, [], ◌∷◌, ◌++◌, ℕ, ◌+◌, ◌*◌, ◌≤◌, length, take, drop}
use Rattle.numbers.specs.Numbers.{numbers_of, bytes_of}
use Rattle.refusals.specs.Answers.{refused, answering, Passed, number_of, told}
use Rattle.timetable.specs.File.{header_length, connection_length}
use Rattle.timetable.specs.Check.{format_version, max_stops, max_connections, file_verdict}
use Rattle.gtfs.specs.Files.{mark}
use Rattle.gtfs.specs.Conversions.{Conversion, conversion, converted, import_verdict, imported_file}
use Rattle.std.specs.Prelude.{Result, Ok, Err}
use Rattle.refusals.specs.declared.Refusal.{Refusal}
use Rattle.feeds.specs.Progress.{connections_room}

-- how long a file is at most
abbrev pub file_room : ℕ
file_room = header_length + 2 * max_stops + connections_room

-- as many stops and connections as a timetable has, and room for the longest file
pub record Heading (change : List ℕ) (s n : ℕ) (file : List ℕ) : Type 0 where
  pub stops : s ≡ length (numbers_of change)
  pub few_stops : s ≤ max_stops
  pub few : n ≤ max_connections
  pub room : length file ≡ file_room

-- the header of a file, and the transfer times that follow it
abbrev pub heading_of : List ℕ → ℕ → ℕ → List ℕ
heading_of change s n = mark ++ bytes_of (format_version ∷ s ∷ n ∷ []) ++ take (2 * s) change

-- a file whose connections stand in an area behind the room for its header and transfer times
abbrev pub file_in : List ℕ → List ℕ → ℕ → ℕ → List ℕ
file_in area change s n = heading_of change s n ++ take (connection_length * n) (drop (header_length + 2 * s) area)

-- what the check of such a file answers, and where it stands
pub record Finished (r : Result ℕ (Refusal ℕ)) (after before change : List ℕ) (s n : ℕ) : Type 0 where
  pub told : told r ≡ answering (file_verdict (file_in before change s n)) (length (file_in before change s n))
  pub stands : take (length (file_in before change s n)) after ≡ file_in before change s n

-- what the making of a file tells, and where it stands if there is one
pub record FileMade (r : Result ℕ (Refusal ℕ)) (after text change : List ℕ) : Type 0 where
  pub told : told r ≡ answering (import_verdict text change) (length (imported_file text change))
  pub within : (n : ℕ) → r ≡ Ok n → n ≤ length after
  pub stands : (n : ℕ) → r ≡ Ok n → take n after ≡ imported_file text change

-- a file that was made, with n bytes of an area, into an output area
abbrev pub delivered : Result ℕ (Refusal ℕ) → List ℕ → List ℕ → Conversion
delivered (Ok n) area output = converted Passed (take n area) output
delivered (Err r) area output = conversion (refused (number_of r.0) r.1) output

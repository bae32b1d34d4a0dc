-- The timetable file of transfer times and connections: its parts as bytes. Assumes nothing.
use Rattle.std.proofs.Common.{◌≡◌, ℕ, ◌*◌, List, [], ◌∷◌, ◌++◌, length, refl, append_assoc, arith}
use Rattle.numbers.specs.Numbers.{bytes_of}
use Rattle.numbers.proofs.Bytes.{bytes_append}
use Rattle.timetable.specs.Check.{format_version}
use Rattle.gtfs.specs.Feed.{Connection}
use Rattle.gtfs.specs.Files.{connection_numbers, mark, file_of}

-- five numbers a connection
pub length_connection_numbers : (cs : List Connection) → length (connection_numbers cs) ≡ 5 * length cs
unfolding connection_numbers
length_connection_numbers [] = refl
length_connection_numbers (c ∷ cs) = rw (length_connection_numbers cs) (omega arith)

-- the header, the transfer times, the connections
pub file_parts : (transfers : List ℕ) (cs : List Connection)
    → file_of transfers cs
    ≡ mark ++ bytes_of (format_version ∷ length transfers ∷ length cs ∷ []) ++ bytes_of transfers ++ bytes_of (connection_numbers cs)
unfolding file_of
file_parts transfers cs =
    let counts : List ℕ = format_version ∷ length transfers ∷ length cs ∷ [] in
    rw (bytes_append counts (transfers ++ connection_numbers cs), bytes_append transfers (connection_numbers cs)) (simp append_assoc)

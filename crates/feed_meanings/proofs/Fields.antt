-- The fields of a file made of transfer times and connections. Assumes nothing.
use Rattle.std.proofs.Common.{◌≡◌, ℕ, zero, suc, ◌+◌, ◌*◌, ◌<◌, true, List, [], ◌∷◌, length, get_or, refl, ◌∙◌, arith, length-append, get_or-append-add}
use lib.ListN.{get_or-append}
use Rattle.timetable.specs.File.{file_length, marked, version, connections, transfer_time, field, trip, from, to, scheduled_departure, scheduled_arrival}
use Rattle.timetable.specs.Check.{format_version}
use Rattle.gtfs.specs.Feed.{Connection}
use Rattle.gtfs.specs.Files.{numbers_in, connection_numbers, file_of}
use Rattle.gtfs.proofs.Files.{length_connection_numbers}
use Rattle.gtfs.proofs.FileNumbers.{file_stops, number_of, length_file}
use Rattle.feed_meanings.specs.Imports.{connection_at}

-- the numbers of connection c
connection_number : (cs : List Connection) (c k : ℕ) → c < length cs → k < 5
    → get_or (connection_numbers cs) (5 * c + k) 0 ≡ get_or (numbers_in (connection_at cs c)) k 0
unfolding connection_numbers
connection_number [] c k h l = absurd (omega arith)
connection_number (x ∷ cs) zero k h l =
    let e : 5 * 0 + k ≡ k = omega arith in
    rw e (get_or-append (numbers_in x) (connection_numbers cs) 0 k (omega arith))
connection_number (x ∷ cs) (suc c) k h l =
    let e : 5 * suc c + k ≡ 5 + (5 * c + k) = omega arith in
    rw (e, get_or-append-add (numbers_in x) (connection_numbers cs) (5 * c + k) 0) (connection_number cs c k (omega arith) l)

module _ (ts : List ℕ) (cs : List Connection) where
  pub file_marked : marked (file_of ts cs) ≡ true
  unfolding file_of
  file_marked = refl

  pub file_version : version (file_of ts cs) ≡ format_version
  file_version = number_of ts cs 0 (omega arith)

  pub file_connections : connections (file_of ts cs) ≡ length cs
  file_connections = number_of ts cs 2 (omega arith)

  pub file_length_lem : length (file_of ts cs) ≡ file_length (length ts) (length cs)
  file_length_lem = omega (arith, length_file ts cs, length-append ts (connection_numbers cs), length_connection_numbers cs)

  -- stop s
  pub file_transfer : (s : ℕ) → s < length ts → transfer_time (file_of ts cs) s ≡ get_or ts s 0
  unfolding transfer_time
  file_transfer s h =
      let a = length-append ts (connection_numbers cs) in
      let e : 9 + 2 * s ≡ 3 + 2 * suc (suc (suc s)) = omega arith in
      rw e (number_of ts cs (suc (suc (suc s))) (omega arith) ∙ get_or-append ts (connection_numbers cs) 0 s h)

  -- connection c
  module _ (c : ℕ) (h : c < length cs) where
    file_field : (k : ℕ) → k < 5 → field k (file_of ts cs) c ≡ get_or (numbers_in (connection_at cs c)) k 0
    file_field k l =
        let i = length ts + (5 * c + k) in
        let a = length-append ts (connection_numbers cs) in
        let n = length_connection_numbers cs in
        let e : 9 + 2 * length ts + 10 * c + 2 * k ≡ 3 + 2 * suc (suc (suc i)) = omega arith in
        rw (file_stops ts cs, e)
        (number_of ts cs (suc (suc (suc i))) (omega arith)
        ∙ get_or-append-add ts (connection_numbers cs) (5 * c + k) 0
        ∙ connection_number cs c k h l)

    pub file_trip : trip (file_of ts cs) c ≡ (connection_at cs c).trip
    unfolding trip
    file_trip = file_field 0 (omega arith)

    pub file_from : from (file_of ts cs) c ≡ (connection_at cs c).from
    unfolding from
    file_from = file_field 1 (omega arith)

    pub file_to : to (file_of ts cs) c ≡ (connection_at cs c).to
    unfolding to
    file_to = file_field 2 (omega arith)

    pub file_departure : scheduled_departure (file_of ts cs) c ≡ (connection_at cs c).departure
    unfolding scheduled_departure
    file_departure = file_field 3 (omega arith)

    pub file_arrival : scheduled_arrival (file_of ts cs) c ≡ (connection_at cs c).arrival
    unfolding scheduled_arrival
    file_arrival = file_field 4 (omega arith)

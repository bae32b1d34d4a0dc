-- The file of transfer times and connections: what is read in it, and that it is of bytes where it is a timetable. Assumes nothing.
use Rattle.std.proofs.Common.{◌≡◌, ℕ, zero, suc, ◌+◌, ◌-◌, ◌*◌, ◌/◌, ◌%◌, ◌<◌, ◌≤◌, List, [], ◌∷◌, ◌++◌, length, get_or, ◌∙◌, ⊎_elim, append-nil, arith, take_at}
use lib.ListN.{get_or-eq_default}
use Rattle.numbers.specs.Numbers.{number_at, bytes_of}
use Rattle.numbers.proofs.Areas.{Bytes}
use Rattle.numbers.proofs.Bytes.{length_bytes, bytes_append, number_in, bytes_fit}
use Rattle.timetable.specs.File.{header_length, place_after, field, stops, connections, transfer_time, trip, from, to, scheduled_departure, scheduled_arrival}
use Rattle.timetable.specs.Check.{format_version}
use Rattle.timetable.specs.Accepted.{Timetable}
use Rattle.timetable.proofs.Tests.{by_lt}
use Rattle.gtfs.specs.Feed.{Connection}
use Rattle.gtfs.specs.Files.{connection_numbers, mark, file_of, transfers_in}
use Rattle.gtfs.proofs.Rows.{trip_low}

-- a number of 16 bits
abbrev Small : ℕ → Type 0
Small n = n < 65536

-- each number of a timetable is one: of a connection, of a stop, and at each place behind the letters
module _ (f : List ℕ) (t : Timetable f) where
  field_small : (k c : ℕ) → k < 5 → c < connections f → Small (field k f c)
  unfolding trip from to scheduled_departure scheduled_arrival
  field_small zero c h l = omega (arith, trip_low f t c l, t.few)
  field_small (suc zero) c h l = omega (arith, t.from_stop_lem c l, t.few_stops)
  field_small (suc (suc zero)) c h l = omega (arith, t.to_stop c l, t.few_stops)
  field_small (suc (suc (suc zero))) c h l = omega (arith, t.forward c l, t.within c l)
  field_small (suc (suc (suc (suc zero)))) c h l = omega (arith, t.within c l)
  field_small (suc (suc (suc (suc (suc k))))) c h l = absurd (omega arith)

  transfer_small : (s : ℕ) → s < stops f → Small (number_at f (header_length + 2 * s))
  unfolding transfer_time
  transfer_small s l = omega (arith, t.transfers s l)

  number_small : (i : ℕ) → 3 + 2 * i + 1 < length f → Small (number_at f (3 + 2 * i))
  number_small zero l = omega (arith, t.version)
  number_small (suc zero) l = omega (arith, t.few_stops)
  number_small (suc (suc zero)) l = omega (arith, t.few)
  number_small (suc (suc (suc i))) l =
      ⊎_elim
      (λ (h : i < stops f). let e : 3 + 2 * suc (suc (suc i)) ≡ header_length + 2 * i = omega arith in rw e (transfer_small i h))
      (λ (h : stops f ≤ i).
      let c = (i - stops f) / 5 in
      let k = (i - stops f) % 5 in
      let e : 3 + 2 * suc (suc (suc i)) ≡ place_after (stops f) c + 2 * k = omega arith in
      rw e (field_small k c (omega arith) (omega (arith, t.long))))
      (by_lt i (stops f))

-- bytes behind the letters are bytes with them
letters_bytes : (bytes : List ℕ) → Bytes bytes → Bytes (mark ++ bytes)
letters_bytes bytes b zero = omega arith
letters_bytes bytes b (suc zero) = omega arith
letters_bytes bytes b (suc (suc zero)) = omega arith
letters_bytes bytes b (suc (suc (suc i))) = b i

-- the numbers behind the letters
letters_number : (bytes : List ℕ) (p : ℕ) → number_at (mark ++ bytes) (3 + p) ≡ number_at bytes p
letters_number bytes p =
    let e : 3 + p + 1 ≡ suc (suc (suc (p + 1))) = omega arith in
    let d : 3 + p ≡ suc (suc (suc p)) = omega arith in
    rw (e, d)

-- the file of transfer times and connections
module _ (xs : List ℕ) (cs : List Connection) where
  -- has as many stops as transfer times
  pub file_stops : stops (file_of xs cs) ≡ length xs
  unfolding file_of bytes_of
  file_stops = omega arith

  -- has those transfer times
  pub file_transfers : transfers_in (file_of xs cs) ≡ bytes_of xs
  unfolding file_of bytes_of
  file_transfers =
      rw (bytes_append xs (connection_numbers cs))
      (take_at (bytes_of xs) (bytes_of (connection_numbers cs)) (2 * stops (file_of xs cs)) (omega (arith, length_bytes xs, file_stops)))

  -- has these numbers behind the letters
  abbrev pub numbers : List ℕ
  numbers = format_version ∷ length xs ∷ length cs ∷ xs ++ connection_numbers cs

  pub number_of : (i : ℕ) → i < length numbers → number_at (file_of xs cs) (3 + 2 * i) ≡ get_or numbers i 0
  unfolding file_of
  number_of i l = letters_number (bytes_of numbers) (2 * i) ∙ rw append-nil at (number_in numbers [] i l)

  pub length_file : length (file_of xs cs) ≡ 3 + 2 * length numbers
  unfolding file_of
  length_file = omega (arith, length_bytes numbers)

  -- is of bytes where it is a timetable
  pub file_bytes : Timetable (file_of xs cs) → Bytes (file_of xs cs)
  unfolding file_of
  file_bytes t =
      letters_bytes (bytes_of numbers)
      (bytes_fit numbers
      (λ (i : ℕ).
      ⊎_elim
      (λ (h : i < length numbers). rw (← (number_of i h)) (number_small (file_of xs cs) t i (omega (arith, length_file))))
      (λ (h : length numbers ≤ i). rw (get_or-eq_default numbers 0 {n = i} h) (omega arith))
      (by_lt i (length numbers))))

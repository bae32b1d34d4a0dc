-- A timetable is the file of its transfer times and its connections. Assumes nothing.
use Rattle.std.proofs.Common.{◌≡◌, ℕ, zero, suc, ◌+◌, ◌*◌, ◌≤◌, ◌&&◌, eqb, List, ◌∷◌, ◌++◌, length, get_or, drop, sym, refl, ap, ◌∙◌, ap₂, arith, take-append-drop, drop_of_length-le, get_or-drop, take_all, drop-cons, drop-drop, eqb-true}
use Rattle.numbers.specs.Numbers.{numbers_of, bytes_of}
use Rattle.numbers.proofs.Areas.{Bytes}
use Rattle.numbers.proofs.Bytes.{bytes_append, bytes_numbers, bytes_take, number_bytes}
use Rattle.timetable.specs.File.{header_length, place_after, stops, connections, trip, from, to, scheduled_departure, scheduled_arrival}
use Rattle.timetable.specs.Accepted.{Timetable}
use Rattle.timetable.proofs.Accepted.{room_for_header}
use Rattle.timetable.proofs.Tests.{and_left, and_right}
use Rattle.gtfs.specs.Files.{numbers_in, connection_numbers, mark, file_of, transfers_in}
use Rattle.gtfs.proofs.Transfers.{length_transfers, count_transfers}
use Rattle.round_trips.specs.Connections.{connection_at, connections_from, connections_in}

module _ (f : List ℕ) (b : Bytes f) where
  -- the bytes of a connection in front of those of the numbers that follow it
  connection_bytes : (c : ℕ) (ns : List ℕ) → place_after (stops f) (suc c) ≤ length f → drop (place_after (stops f) (suc c)) f ≡ bytes_of ns
      → drop (place_after (stops f) c) f ≡ bytes_of (numbers_in (connection_at f c) ++ ns)
  unfolding trip from to scheduled_departure scheduled_arrival
  connection_bytes c ns l h =
      let p = place_after (stops f) c in
      let e : p ≡ p + 2 * 0 = omega arith in
      ap (λ (q : ℕ). drop q f) e
      ∙ number_bytes f b (p + 2 * 0) (p + 2 * 1) _ (omega arith) (omega arith)
      (number_bytes f b (p + 2 * 1) (p + 2 * 2) _ (omega arith) (omega arith)
      (number_bytes f b (p + 2 * 2) (p + 2 * 3) _ (omega arith) (omega arith)
      (number_bytes f b (p + 2 * 3) (p + 2 * 4) _ (omega arith) (omega arith)
      (number_bytes f b (p + 2 * 4) (place_after (stops f) (suc c)) ns (omega arith) l h))))

  -- the bytes of the last n connections
  connections_bytes : (c n : ℕ) → place_after (stops f) (c + n) ≡ length f
      → drop (place_after (stops f) c) f ≡ bytes_of (connection_numbers (connections_from f c n))
  unfolding bytes_of connection_numbers connections_from
  connections_bytes c zero e = drop_of_length-le f {i = place_after (stops f) c} (omega arith)
  connections_bytes c (suc n) e =
      connection_bytes c (connection_numbers (connections_from f (suc c) n)) (omega arith) (connections_bytes (suc c) n (omega arith))

-- as many connections as are asked for
pub length_connections : (f : List ℕ) (c n : ℕ) → length (connections_from f c n) ≡ n
unfolding connections_from
length_connections f c zero = refl
length_connections f c (suc n) = ap suc (length_connections f (suc c) n)

module _ (f : List ℕ) (t : Timetable f) where
  -- the letters stand in front
  letters_front : f ≡ mark ++ drop 3 f
  letters_front =
      let l : header_length ≤ length f = room_for_header f t in
      let one = eqb (get_or f 0 0) 84 in
      let two = eqb (get_or f 1 0) 84 in
      let three = eqb (get_or f 2 0) 71 in
      let m = and_left (one && two) three t.mark in
      let first = eqb-true (get_or f 0 0) 84 (and_left one two m) in
      let second = eqb-true (get_or f 1 0) 84 (and_right one two m) in
      let third = eqb-true (get_or f 2 0) 71 (and_right (one && two) three t.mark) in
      drop-cons f 0 0 (omega arith)
      ∙ ap₂ ◌∷◌ first (drop-cons f 1 0 (omega arith) ∙ ap₂ ◌∷◌ second (drop-cons f 2 0 (omega arith) ∙ ap₂ ◌∷◌ third refl))

  module _ (b : Bytes f) where
    -- the bytes of the transfer times
    transfer_bytes : bytes_of (numbers_of (transfers_in f)) ≡ transfers_in f
    transfer_bytes =
        bytes_numbers (transfers_in f) (bytes_take (2 * stops f) (drop header_length f) (λ (i : ℕ). rw get_or-drop (b (header_length + i))))
        ∙ take_all (2 * length (numbers_of (transfers_in f))) (transfers_in f) (omega (arith, count_transfers f t, length_transfers f t))

    -- those after the header
    body_bytes : drop header_length f ≡ bytes_of (numbers_of (transfers_in f) ++ connection_numbers (connections_in f))
    body_bytes =
        let e : header_length + 2 * stops f ≡ place_after (stops f) 0 = omega arith in
        let l = t.long in
        sym (take-append-drop (2 * stops f) (drop header_length f))
        ∙ ap₂ ◌++◌ (sym transfer_bytes)
        (drop-drop (2 * stops f) header_length f
        ∙ ap (λ (p : ℕ). drop p f) e
        ∙ connections_bytes f b 0 (connections f) (omega arith))
        ∙ sym (bytes_append (numbers_of (transfers_in f)) (connection_numbers (connections_in f)))

    -- a timetable is the file of its transfer times and its connections
    pub file_again : file_of (numbers_of (transfers_in f)) (connections_in f) ≡ f
    unfolding file_of
    file_again =
        let l : header_length ≤ length f = room_for_header f t in
        let rest = numbers_of (transfers_in f) ++ connection_numbers (connections_in f) in
        rw (count_transfers f t, length_connections f 0 (connections f), ← t.version)
        (ap (◌++◌ mark)
        (sym
        (number_bytes f b 3 5 (stops f ∷ connections f ∷ rest) refl (omega arith)
        (number_bytes f b 5 7 (connections f ∷ rest) refl (omega arith) (number_bytes f b 7 9 rest refl l body_bytes))))
        ∙ sym letters_front)

-- What is known after all rows of a text: the first row alone in its trip, how many connections the rows make, and these in the area.
-- Assumes nothing.
use Rattle.std.proofs.Common.{◌≡◌, ℕ, suc, ◌+◌, ◌*◌, ◌<◌, ◌≤◌, Bool, true, false, cond, not, eqb, List, [], ◌∷◌, ◌++◌, length, Some, None, Option, sym, refl, ap, ◌∙◌, ⊎_elim, add-zero, add-one, arith, lt-ltb, eq-eqb, ne_eqb, eqb-true}
use mathlib.Core.Bool.{or-true, or-false}
use mathlib.Core.List.{foldl}
use lib.Dec.{eqb-suc-suc}
use lib.Seq.{sets}
use Rattle.std.specs.Option.{option_or}
use Rattle.numbers.specs.Numbers.{bytes_of}
use Rattle.numbers.proofs.Bytes.{length_bytes, bytes_append}
use Rattle.decimals.proofs.Written.{sets_append}
use Rattle.timetable.specs.File.{connection_length}
use Rattle.timetable.specs.Check.{max_connections}
use Rattle.refusals.specs.Answers.{refuse_if, or_else, Verdict, Passed, Refused}
use Rattle.timetable.proofs.Tests.{by_bool, by_eq}
use Rattle.timetable.proofs.Order.{or_passed, else_assoc}
use Rattle.refusals.specs.RefusalNumber as refusal
use Rattle.gtfs.specs.declared.StopTime.{StopTime}
use Rattle.gtfs.specs.Feed.{Connection, same_trip, alone_verdict, connection_of, connections_of}
use Rattle.gtfs.specs.Files.{numbers_in, connection_numbers}
use Rattle.feeds.specs.declared.Progress.{Progress}
use Rattle.feeds.specs.Progress.{alone_after, advanced, connection_to, connected}

-- what is known before the first row
abbrev pub start : Progress
start = record { row = 0; trips = 0; stop = 0; departure = 0; sequence = 0; joined = true; alone = None; connections = 0 }

-- the area of connections after some rows
unfoldable pub filled : Progress → List StopTime → List ℕ → List ℕ
filled p [] area = area
filled p (row ∷ rows) area = filled (advanced p row) rows (connected p row area)

-- 31 at a row found
abbrev pub found_at : Option ℕ → Verdict
found_at None = Passed
found_at (Some n) = Refused refusal.wrong_text_row n

-- what is known after a row tells of it
pub record Tells (p : Progress) (row : StopTime) : Type 0 where
  pub some : 0 < p.row
  pub began : p.trips ≡ suc row.trip
  pub stop : p.stop ≡ row.stop
  pub departure : p.departure ≡ row.departure
  pub sequence : p.sequence ≡ row.sequence

pub tells : (p : Progress) (row : StopTime) → Tells (advanced p row) row
tells p row = record { some = omega arith; began = add-one row.trip; stop = refl; departure = refl; sequence = refl }

-- one row more
pub row_more : (p : Progress) (row : StopTime) → (advanced p row).row ≡ suc p.row
row_more p row = add-one p.row

-- no trip has begun before the first row
none_begun : (row : StopTime) → eqb (row.trip + 1) 0 ≡ false
none_begun row = ne_eqb (row.trip + 1) 0 (λ (e : row.trip + 1 ≡ 0). omega arith)

found_or : (joined : Bool) (alone : Option ℕ) (row : ℕ)
    → found_at (cond joined alone (option_or alone (Some row))) ≡ or_else (found_at alone) (refuse_if (not joined) refusal.wrong_text_row row)
found_or true alone row = sym (or_passed (found_at alone))
found_or false None row = refl
found_or false (Some n) row = refl

-- a row found alone, and then the last one
alone_found : (p : Progress)
    → found_at (alone_after p) ≡ or_else (found_at p.alone) (refuse_if (not p.joined) refusal.wrong_text_row p.row)
alone_found p = found_or p.joined p.alone p.row

module _ (p : Progress) (row next : StopTime) (t : Tells p row) where
  -- whether the next row goes on in the trip
  goes_on : eqb (next.trip + 1) p.trips ≡ same_trip row next
  goes_on =
      rw (t.began, add-one next.trip, eqb-suc-suc next.trip row.trip)
      (⊎_elim
      (λ e. rw (eq-eqb next.trip row.trip e, eq-eqb row.trip next.trip (sym e)))
      (λ e. rw (ne_eqb next.trip row.trip e, ne_eqb row.trip next.trip (λ d. e (sym d))))
      (by_eq next.trip row.trip))

  -- the connection from the last row to one that goes on
  same_connection : same_trip row next ≡ true → connection_to p next ≡ connection_of row next
  same_connection e = rw (eqb-true row.trip next.trip e, t.stop, t.departure)

-- the first row alone in its trip, of a row and those after it
alone_told : (rows : List StopTime) (p : Progress) (row : StopTime) → Tells p row
    → found_at (alone_after (foldl advanced p rows)) ≡ or_else (found_at p.alone) (alone_verdict p.row p.joined (row ∷ rows))
unfolding alone_verdict
alone_told [] p row t = alone_found p
alone_told (next ∷ rows) p row t =
    alone_told rows (advanced p next) next (tells p next)
    ∙ ⊎_elim
    (λ (e : same_trip row next ≡ true). rw (advanced, goes_on p row next t, e, or-true, add-one p.row))
    (λ (e : same_trip row next ≡ false).
    rw (advanced, goes_on p row next t, e, or-false, add-one p.row)
    (rw (alone_found p) (else_assoc (found_at p.alone) (refuse_if (not p.joined) refusal.wrong_text_row p.row) _)))
    (by_bool (same_trip row next))

-- one row more, of a row, the next one and those after it
module _ (rows : List StopTime) (p : Progress) (row next : StopTime) (t : Tells p row) where
  count_turn : (advanced p next).connections + length (connections_of (next ∷ rows))
      ≡ p.connections + length (connections_of (row ∷ next ∷ rows))
  unfolding connections_of
  count_turn =
      ⊎_elim
      (λ (e : same_trip row next ≡ true). rw (advanced, goes_on p row next t, e) (omega arith))
      (λ (e : same_trip row next ≡ false). rw (advanced, goes_on p row next t, e) (omega arith))
      (by_bool (same_trip row next))

  place_turn : (area : List ℕ) → p.connections + length (connections_of (row ∷ next ∷ rows)) ≤ max_connections
      → sets (connected p next area) (connection_length * (advanced p next).connections)
      (bytes_of (connection_numbers (connections_of (next ∷ rows))))
      ≡ sets area (connection_length * p.connections) (bytes_of (connection_numbers (connections_of (row ∷ next ∷ rows))))
  unfolding connections_of connection_numbers
  place_turn area room =
      let at = connection_length * p.connections in
      let ns = numbers_in (connection_to p next) in
      let ms = connection_numbers (connections_of (next ∷ rows)) in
      let d : connection_length * (p.connections + 1) ≡ at + length (bytes_of ns) = omega (arith, length_bytes ns) in
      ⊎_elim
      (λ (e : same_trip row next ≡ true).
      let few : p.connections < max_connections = omega (arith, rw e at room) in
      rw (advanced, connected, goes_on p row next t, e, lt-ltb p.connections max_connections few)
      (rw (d, sets_append area at (bytes_of ns) (bytes_of ms), ← bytes_append ns ms)
      (ap (λ (c : Connection). sets area at (bytes_of (numbers_in c ++ ms))) (same_connection p row next t e))))
      (λ (e : same_trip row next ≡ false). rw (advanced, connected, goes_on p row next t, e, add-zero))
      (by_bool (same_trip row next))

-- how many connections a row and those after it make
count_told : (rows : List StopTime) (p : Progress) (row : StopTime) → Tells p row
    → (foldl advanced p rows).connections ≡ p.connections + length (connections_of (row ∷ rows))
unfolding connections_of
count_told [] p row t = omega arith
count_told (next ∷ rows) p row t = count_told rows (advanced p next) next (tells p next) ∙ count_turn rows p row next t

-- and these in the area, if a timetable may have so many
places_told : (rows : List StopTime) (p : Progress) (row : StopTime) (area : List ℕ) → Tells p row
    → p.connections + length (connections_of (row ∷ rows)) ≤ max_connections
    → filled p rows area ≡ sets area (connection_length * p.connections) (bytes_of (connection_numbers (connections_of (row ∷ rows))))
unfolding connections_of connection_numbers filled bytes_of
places_told [] p row area t room = refl
places_told (next ∷ rows) p row area t room =
    places_told rows (advanced p next) next (connected p next area) (tells p next) (rw (count_turn rows p row next t) room)
    ∙ place_turn rows p row next t area room

-- what is known after all rows: the first alone in its trip
pub alone_known : (rows : List StopTime) → found_at (alone_after (foldl advanced start rows)) ≡ alone_verdict 1 false rows
unfolding alone_verdict
alone_known [] = refl
alone_known (row ∷ rows) = alone_told rows (advanced start row) row (tells start row) ∙ rw (advanced, none_begun row)

-- how many connections they make
pub count_known : (rows : List StopTime) → (foldl advanced start rows).connections ≡ length (connections_of rows)
unfolding connections_of
count_known [] = refl
count_known (row ∷ rows) = count_told rows (advanced start row) row (tells start row) ∙ rw (advanced, none_begun row) (omega arith)

-- and these in the area
pub places_known : (rows : List StopTime) (area : List ℕ) → length (connections_of rows) ≤ max_connections
    → filled start rows area ≡ sets area 0 (bytes_of (connection_numbers (connections_of rows)))
unfolding connections_of connection_numbers filled bytes_of
places_known [] area room = refl
places_known (row ∷ rows) area room =
    places_told rows (advanced start row) row (connected start row area) (tells start row) (rw (advanced, none_begun row) (omega arith))
    ∙ rw (advanced, connected, none_begun row)

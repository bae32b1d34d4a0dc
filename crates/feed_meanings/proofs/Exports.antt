-- The rows of a timetable are what an export has to give. Assumes nothing.
use Rattle.std.proofs.Common.{◌≡◌, ℕ, zero, suc, ◌+◌, ◌-◌, ◌<◌, true, false, List, [], ◌∷◌, ◌++◌, length, sym, refl, ap, ◌∙◌, ⊎_elim, append_assoc, append-nil, add-zero, zero-add, add-one, arith, length-append, get_or-append-add, lt-ltb}
use Rattle.timetable.specs.File.{connections, scheduled_departure, stays_aboard}
use Rattle.timetable.specs.Accepted.{Timetable}
use Rattle.timetable.proofs.Tests.{by_bool, not_both}
use Rattle.gtfs.specs.Rows.{position, start_row, leaves_again, end_row, rows_at, rows_from, timetable_rows}
use Rattle.gtfs.specs.declared.StopTime.{StopTime}
use Rattle.gtfs.proofs.Rows.{position_first, position_next}
use Rattle.round_trips.proofs.TimetableRows.{first_starts, same_trip_lem, next_trip}
use Rattle.feed_meanings.specs.Texts.{row_at}
use Rattle.feed_meanings.specs.Exports.{start_place, StartsFrom, GoesTo, Exported}

-- rows of so many connections, and of more
rows_split : (f : List ℕ) (c n m : ℕ) → rows_from f c (n + m) ≡ rows_from f c n ++ rows_from f (c + n) m
unfolding rows_from
rows_split f c zero m = rw (zero-add m, add-zero c)
rows_split f c (suc n) m =
    let a : suc n + m ≡ suc (n + m) = omega arith in
    let b : c + suc n ≡ suc c + n = omega arith in
    rw (a, b)
    (ap (λ (rows : List StopTime). rows_at f c ++ rows) (rows_split f (suc c) n m)
    ∙ sym (append_assoc (rows_at f c) (rows_from f (suc c) n) (rows_from f (suc c + n) m)))

-- the rows that a connection adds: two where its trip begins, one where it goes on
begin_rows : (f : List ℕ) (c : ℕ) → stays_aboard f c ≡ false → rows_at f c ≡ start_row f c ∷ end_row f c ∷ []
begin_rows f c h = rw h

stay_rows : (f : List ℕ) (c : ℕ) → stays_aboard f c ≡ true → rows_at f c ≡ end_row f c ∷ []
stay_rows f c h = rw h

module _ (f : List ℕ) where
  -- the rows before those of connection c, its own, and those after them
  rows_here : (c : ℕ) → c < connections f
      → timetable_rows f ≡ rows_from f 0 c ++ (rows_at f c ++ rows_from f (suc c) (connections f - suc c))
  unfolding rows_from
  rows_here c l =
      let e : connections f ≡ c + suc (connections f - suc c) = omega arith in
      ap (rows_from f 0) e ∙ rows_split f 0 c (suc (connections f - suc c)) ∙ rw (zero-add c)

  row_here : (c k : ℕ) → c < connections f
      → row_at (timetable_rows f) (length (rows_from f 0 c) + k) ≡ row_at (rows_at f c ++ rows_from f (suc c) (connections f - suc c)) k
  row_here c k l = rw (rows_here c l) (get_or-append-add (rows_from f 0 c) _ k _)

  one_row : (c : ℕ) → rows_from f c 1 ≡ rows_at f c
  unfolding rows_from
  one_row c = append-nil (rows_at f c)

  length_more : (c : ℕ) → length (rows_from f 0 (suc c)) ≡ length (rows_from f 0 c) + length (rows_at f c)
  length_more c =
      let one : rows_from f (0 + c) 1 ≡ rows_at f c = rw (zero-add c) (one_row c) in
      ap (λ (n : ℕ). length (rows_from f 0 n)) (sym (add-one c))
      ∙ ap length (rows_split f 0 c 1 ∙ ap (λ (rows : List StopTime). rows_from f 0 c ++ rows) one)
      ∙ length-append (rows_from f 0 c) (rows_at f c)

  no_rows : rows_from f 0 0 ≡ []
  unfolding rows_from
  no_rows = refl

  -- where a trip goes on, the row that it starts from again is the one before
  pub again_place : (c : ℕ) → stays_aboard f (suc c) ≡ true → start_place f (suc c) ≡ suc (start_place f c)
  again_place c h = omega (arith, same_trip_lem f c h)

  module _ (t : Timetable f) where
    -- how many rows there are with those of connection c
    length_with : (c : ℕ) → c < connections f → length (rows_from f 0 (suc c)) ≡ suc (suc (start_place f c))
    length_with zero l =
        rw (length_more 0, no_rows, begin_rows f 0 (first_starts f)) (omega (arith, t.first_trip l))
    length_with (suc c) l =
        let before = length_with c (omega arith) in
        ⊎_elim
        (λ h. rw (length_more (suc c), stay_rows f (suc c) h) (omega (arith, same_trip_lem f c h)))
        (λ h. rw (length_more (suc c), begin_rows f (suc c) h) (omega (arith, next_trip f t c l h)))
        (by_bool (stays_aboard f (suc c)))

    -- the rows of connection c at their places
    start_row_lem : (c : ℕ) → c < connections f → stays_aboard f c ≡ false → row_at (timetable_rows f) (start_place f c) ≡ start_row f c
    start_row_lem c l h =
        let n = length_with c l in
        let m = length_more c in
        let two = ap length (begin_rows f c h) in
        let e : start_place f c ≡ length (rows_from f 0 c) + 0 = omega arith in
        rw e (row_here c 0 l ∙ rw (begin_rows f c h))

    end_row_lem : (c : ℕ) → c < connections f → row_at (timetable_rows f) (suc (start_place f c)) ≡ end_row f c
    end_row_lem c l =
        let n = length_with c l in
        let m = length_more c in
        ⊎_elim
        (λ h.
        let one = ap length (stay_rows f c h) in
        let e : suc (start_place f c) ≡ length (rows_from f 0 c) + 0 = omega arith in
        rw e (row_here c 0 l ∙ rw (stay_rows f c h)))
        (λ h.
        let two = ap length (begin_rows f c h) in
        let e : suc (start_place f c) ≡ length (rows_from f 0 c) + 1 = omega arith in
        rw e (row_here c 1 l ∙ rw (begin_rows f c h)))
        (by_bool (stays_aboard f c))

    -- where a trip goes on
    again_row : (c : ℕ) → suc c < connections f → stays_aboard f (suc c) ≡ true → row_at (timetable_rows f) (start_place f (suc c)) ≡ end_row f c
    again_row c l h = rw (again_place c h) (end_row_lem c (omega arith))

    leaves_again_lem : (c : ℕ) → suc c < connections f → stays_aboard f (suc c) ≡ true → leaves_again f c ≡ scheduled_departure f (suc c)
    leaves_again_lem c l h = rw (lt-ltb (suc c) (connections f) l, h)

    begins_from : (c : ℕ) → c < connections f → stays_aboard f c ≡ false → StartsFrom f c (row_at (timetable_rows f) (start_place f c))
    begins_from c l h =
        rw (start_row_lem c l h)
        (record { trip_id_lem = refl; stop_id_lem = refl; departs = refl; first_arrival = λ e. refl; first_sequence = λ e. refl })

    starts_from : (c : ℕ) → c < connections f → StartsFrom f c (row_at (timetable_rows f) (start_place f c))
    starts_from zero l = begins_from 0 l (first_starts f)
    starts_from (suc c) l =
        ⊎_elim
        (λ h.
        rw (again_row c l h)
        (record {
          trip_id_lem = sym (same_trip_lem f c h);
          stop_id_lem = sym (t.joins c l h);
          departs = leaves_again_lem c l h;
          first_arrival = λ e. absurd (not_both h e);
          first_sequence = λ e. absurd (not_both h e);
        }))
        (begins_from (suc c) l)
        (by_bool (stays_aboard f (suc c)))

    goes_to : (c : ℕ) → c < connections f → GoesTo f c (row_at (timetable_rows f) (suc (start_place f c)))
    goes_to c l = rw (end_row_lem c l) (record { trip_id_lem = refl; stop_id_lem = refl; arrives = refl; last_departure = λ h. rw h })

    -- the stop_sequence that a connection starts from
    begins_at : (c : ℕ) → c < connections f → stays_aboard f c ≡ false → (row_at (timetable_rows f) (start_place f c)).sequence ≡ position f c
    begins_at c l h = rw (start_row_lem c l h) (sym (position_first f c h))

    starts_at : (c : ℕ) → c < connections f → (row_at (timetable_rows f) (start_place f c)).sequence ≡ position f c
    starts_at zero l = begins_at 0 l (first_starts f)
    starts_at (suc c) l =
        ⊎_elim
        (λ h. rw (again_row c l h) (sym (position_next f c h)))
        (begins_at (suc c) l)
        (by_bool (stays_aboard f (suc c)))

    pub exported_rows : Exported f (timetable_rows f)
    exported_rows =
        record {
          none = λ e. rw e no_rows;
          as_many = λ c e. rw (← e) (length_with c (omega arith));
          starts = starts_from;
          goes = goes_to;
          by_ones = λ c l. rw (end_row_lem c l) (ap suc (sym (starts_at c l)));
        }

-- The rows of a timetable: they can be written, may follow one another, none is alone in its trip, and they make the timetable's
-- connections. Assumes nothing.
use Rattle.std.proofs.Common.{◌≡◌, ℕ, zero, suc, ◌+◌, ◌<◌, Bool, true, false, eqb, ltb, List, ◌∷◌, sym, refl, ap, ap₂, ⊎_elim, arith, lt-ltb, eq-eqb, ne_eqb, eqb-true}
use mathlib.Core.Bool.{or-true}
use borrow.Author.Tests.{eqb-false}
use Rattle.timetable.specs.File.{connections, trip, stays_aboard}
use Rattle.timetable.specs.Accepted.{Timetable}
use Rattle.refusals.specs.Answers.{Passed}
use Rattle.timetable.proofs.Tests.{by_bool, or_left, or_right, and_both}
use Rattle.cuts.proofs.Cut.{starts_with_lem}
use Rattle.gtfs.specs.declared.StopTime.{StopTime}
use Rattle.gtfs.specs.StopTimes.{header_text}
use Rattle.gtfs.specs.Feed.{may_follow, alone_verdict, rows_of, text_verdict, connections_of}
use Rattle.gtfs.specs.Rows.{position, start_row, end_row, rows_from, timetable_rows, rows_text, text_of}
use Rattle.gtfs.proofs.Rows.{position_next, position_low, departs_within, leaves_within, trip_low}
use Rattle.gtfs.proofs.RowsRead.{RowFits, RowsFit, Follow, rows_read, rows_pass}
use Rattle.round_trips.specs.Connections.{connection_at, connections_from, connections_in}

-- a row that begins the next trip, and one that goes on in the one begun last, may come next
may_begin : (trips sequence : ℕ) (row : StopTime) → row.trip ≡ trips → may_follow trips sequence row ≡ true
may_begin trips sequence row e = or_left (eqb row.trip trips) _ (eq-eqb row.trip trips e)

may_go_on : (trips sequence : ℕ) (row : StopTime) → suc row.trip ≡ trips → sequence < row.sequence
    → may_follow trips sequence row ≡ true
may_go_on trips sequence row e l =
    or_right (eqb row.trip trips) _
    (and_both (eqb (suc row.trip) trips) (ltb sequence row.sequence)
    (eq-eqb (suc row.trip) trips e)
    (lt-ltb sequence row.sequence l))

module _ (f : List ℕ) where
  -- no one stays aboard at the first connection
  pub first_starts : stays_aboard f 0 ≡ false
  unfolding stays_aboard
  first_starts = refl

  -- a connection on which one stays aboard has the trip of the one before
  pub same_trip_lem : (c : ℕ) → stays_aboard f (suc c) ≡ true → trip f (suc c) ≡ trip f c
  unfolding stays_aboard
  same_trip_lem c h = eqb-true (trip f (suc c)) (trip f c) h

  -- no row is alone in its trip: where a trip begins, after the rows of connection c, and from the first row on
  begins_joined : (k : ℕ) (joined : Bool) (c n : ℕ) → alone_verdict (suc k) true (end_row f c ∷ rows_from f (suc c) n) ≡ Passed
      → alone_verdict k joined (start_row f c ∷ end_row f c ∷ rows_from f (suc c) n) ≡ Passed
  unfolding alone_verdict
  begins_joined k joined c n h = rw (eq-eqb (trip f c) (trip f c) refl, or-true) h

  after_joined : (k c n : ℕ) → alone_verdict k true (end_row f c ∷ rows_from f (suc c) n) ≡ Passed
  unfolding rows_from alone_verdict
  after_joined k c zero = refl
  after_joined k c (suc n) =
      ⊎_elim
      (λ (h : stays_aboard f (suc c) ≡ true).
      rw (h, eq-eqb (trip f c) (trip f (suc c)) (sym (same_trip_lem c h))) (after_joined (suc k) (suc c) n))
      (λ (h : stays_aboard f (suc c) ≡ false).
      rw h (begins_joined (suc k) (eqb (trip f c) (trip f (suc c))) (suc c) n (after_joined (suc (suc k)) (suc c) n)))
      (by_bool (stays_aboard f (suc c)))

  all_joined : (k n : ℕ) → alone_verdict k false (rows_from f 0 n) ≡ Passed
  unfolding rows_from alone_verdict
  all_joined k zero = refl
  all_joined k (suc n) = rw first_starts (begins_joined k false 0 n (after_joined (suc k) 0 n))

module _ (f : List ℕ) (t : Timetable f) where
  -- a connection on which one does not stay aboard begins the next trip
  pub next_trip : (c : ℕ) → suc c < connections f → stays_aboard f (suc c) ≡ false → trip f (suc c) ≡ suc (trip f c)
  unfolding stays_aboard
  next_trip c l h = ⊎_elim (λ e. absurd (eqb-false (trip f (suc c)) (trip f c) h e)) (λ e. e) (t.trips c l)

  -- the rows can be written: those of a connection, of n connections from c on, and all
  start_fits : (c : ℕ) → c < connections f → RowFits (start_row f c)
  start_fits c l =
      let d = departs_within f t c l in
      record {
        trip_fits = omega (arith, trip_low f t c l, t.few);
        arrival_fits = omega arith;
        departure_fits = omega arith;
        stop_fits = omega (arith, t.from_stop_lem c l, t.few_stops);
        sequence_fits = omega arith;
      }

  end_fits : (c : ℕ) → c < connections f → RowFits (end_row f c)
  end_fits c l =
      record {
        trip_fits = omega (arith, trip_low f t c l, t.few);
        arrival_fits = omega (arith, t.within c l);
        departure_fits = omega (arith, leaves_within f t c l);
        stop_fits = omega (arith, t.to_stop c l, t.few_stops);
        sequence_fits = omega (arith, position_low f c, t.few);
      }

  rows_fit : (c n : ℕ) → c + n ≡ connections f → RowsFit (rows_from f c n)
  unfolding rows_from
  rows_fit c zero e = tt
  rows_fit c (suc n) e =
      let l : c < connections f = omega arith in
      let more = rows_fit (suc c) n (omega arith) in
      ⊎_elim
      (λ (h : stays_aboard f c ≡ true). rw h (end_fits c l, more))
      (λ (h : stays_aboard f c ≡ false). rw h (start_fits c l, (end_fits c l, more)))
      (by_bool (stays_aboard f c))

  pub whole_fits : RowsFit (timetable_rows f)
  whole_fits = rows_fit 0 (connections f) (omega arith)

  -- they may follow one another: where a trip begins, after the rows of connection c, and from the first row on
  begins_follow : (trips sequence c n : ℕ) → trip f c ≡ trips → Follow (suc (trip f c)) (suc (position f c)) (rows_from f (suc c) n)
      → Follow trips sequence (start_row f c ∷ end_row f c ∷ rows_from f (suc c) n)
  begins_follow trips sequence c n e m =
      (may_begin trips sequence (start_row f c) e, (may_go_on (suc (trip f c)) 0 (end_row f c) refl (omega arith), m))

  after_follow : (c n : ℕ) → suc c + n ≡ connections f → Follow (suc (trip f c)) (suc (position f c)) (rows_from f (suc c) n)
  unfolding rows_from
  after_follow c zero e = tt
  after_follow c (suc n) e =
      let more = after_follow (suc c) n (omega arith) in
      ⊎_elim
      (λ (h : stays_aboard f (suc c) ≡ true).
      rw h (
        may_go_on (suc (trip f c)) (suc (position f c)) (end_row f (suc c)) (ap suc (same_trip_lem f c h)) (omega (arith, position_next f c h)),
        more,
      ))
      (λ (h : stays_aboard f (suc c) ≡ false).
      rw h (begins_follow (suc (trip f c)) (suc (position f c)) (suc c) n (next_trip c (omega arith) h) more))
      (by_bool (stays_aboard f (suc c)))

  all_follow : (n : ℕ) → n ≡ connections f → Follow 0 0 (rows_from f 0 n)
  unfolding rows_from
  all_follow zero e = tt
  all_follow (suc n) e = rw (first_starts f) (begins_follow 0 0 0 n (t.first_trip (omega arith)) (after_follow 0 n (omega arith)))

  -- they make the connections of the timetable: after the rows of connection c, and from the first row on
  after_connections : (c n : ℕ) → suc c + n ≡ connections f
      → connections_of (end_row f c ∷ rows_from f (suc c) n) ≡ connections_from f (suc c) n
  unfolding rows_from connections_of connections_from
  after_connections c zero e = refl
  after_connections c (suc n) e =
      let l : suc c < connections f = omega arith in
      let more = after_connections (suc c) n (omega arith) in
      ⊎_elim
      (λ (h : stays_aboard f (suc c) ≡ true).
      rw (h, lt-ltb (suc c) (connections f) l, eq-eqb (trip f c) (trip f (suc c)) (sym (same_trip_lem f c h)))
      (ap₂ ◌∷◌ (rw (t.joins c l h, same_trip_lem f c h)) more))
      (λ (h : stays_aboard f (suc c) ≡ false).
      let d : trip f c ≡ trip f (suc c) → ⊥ = omega (arith, next_trip c l h) in
      rw (h, ne_eqb (trip f c) (trip f (suc c)) d, eq-eqb (trip f (suc c)) (trip f (suc c)) refl)
      (ap (◌∷◌ (connection_at f (suc c))) more))
      (by_bool (stays_aboard f (suc c)))

  all_connections : (n : ℕ) → n ≡ connections f → connections_of (rows_from f 0 n) ≡ connections_from f 0 n
  unfolding rows_from connections_of connections_from
  all_connections zero e = refl
  all_connections (suc n) e =
      rw (first_starts f, eq-eqb (trip f 0) (trip f 0) refl) (ap (◌∷◌ (connection_at f 0)) (after_connections 0 n (omega arith)))

  pub rows_connections : connections_of (timetable_rows f) ≡ connections_in f
  rows_connections = all_connections (connections f) refl

  -- the text is read as the rows
  pub text_rows : rows_of (text_of f) ≡ timetable_rows f
  unfolding text_of
  text_rows = rows_read (timetable_rows f) whole_fits

  -- and none of them is refused
  pub text_passes : text_verdict (text_of f) ≡ Passed
  unfolding text_of text_verdict
  text_passes =
      rw (
        starts_with_lem header_text (rows_text (timetable_rows f)),
        rows_pass 1 0 0 (timetable_rows f) whole_fits (all_follow (connections f) refl),
        rows_read (timetable_rows f) whole_fits,
      )
      (all_joined f 1 (connections f))

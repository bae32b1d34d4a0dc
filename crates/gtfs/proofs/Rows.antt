-- The rows of a timetable, connection by connection: where its trip begins, what each adds to the text, how long that is, and that the
-- times and numbers in it are small. Assumes nothing.
use Rattle.std.proofs.Common.{◌≡◌, ℕ, zero, suc, ◌+◌, ◌-◌, ◌*◌, ◌<◌, ◌≤◌, true, false, ltb, List, [], ◌∷◌, ◌++◌, length, sym, refl, ap, ◌∙◌, ⊎_elim, append_assoc, append-nil, add-zero, zero-add, add-one, arith, length-append, ltb-true, le-ltb, lt-ltb}
use Rattle.decimals.specs.Decimal.{max_number}
use Rattle.decimals.proofs.Digits.{digits_five}
use Rattle.timetable.specs.File.{connections, trip, scheduled_departure, scheduled_arrival, stays_aboard}
use Rattle.timetable.specs.Check.{last_scheduled, connection_verdict}
use Rattle.timetable.specs.Accepted.{Timetable}
use Rattle.timetable.proofs.Tests.{by_eq, by_bool, and_left}
use Rattle.timetable.proofs.Next.{one_back}
use Rattle.timetable.proofs.Order.{below_passed}
use Rattle.timetable.proofs.Rules.{connection_passes, trip_before}
use Rattle.timetable.proofs.Accepted.{good_connection}
use Rattle.gtfs.specs.declared.StopTime.{StopTime}
use Rattle.gtfs.specs.StopTimes.{header_text, row_text}
use Rattle.gtfs.specs.Rows.{position, trip_goes_on, start_row, leaves_again, end_row, rows_at, rows_from, rows_text, text_of}
use Rattle.gtfs.proofs.RowTexts.{length_row}

-- rows written after rows
rows_append : (rows more : List StopTime) → rows_text (rows ++ more) ≡ rows_text rows ++ rows_text more
unfolding rows_text
rows_append [] more = refl
rows_append (row ∷ rows) more = rw (rows_append rows more, append_assoc (row_text row) (rows_text rows) (rows_text more))

-- how long a row may be, with numbers of 16 bits
abbrev pub row_room : ℕ
row_room = 36

row_short : (row : StopTime) → row.trip ≤ max_number → row.stop ≤ max_number → row.sequence ≤ max_number → length (row_text row) ≤ row_room
row_short row h g k =
    omega (arith, length_row row, digits_five row.trip h, digits_five row.stop g, digits_five row.sequence k)

module _ (f : List ℕ) where
  -- the first connection of a trip stands at position 0, and each other one after the one before it
  pub position_first : (c : ℕ) → stays_aboard f c ≡ false → position f c ≡ 0
  unfolding position
  position_first zero h = refl
  position_first (suc c) h = rw h

  pub position_next : (c : ℕ) → stays_aboard f (suc c) ≡ true → position f (suc c) ≡ suc (position f c)
  unfolding position
  position_next c h = rw h

  pub position_low : (c : ℕ) → position f c ≤ c
  unfolding position
  position_low zero = omega arith
  position_low (suc c) =
      ⊎_elim (λ h. rw h (omega (arith, position_low c))) (λ h. rw h (omega arith)) (by_bool (stays_aboard f (suc c)))

  -- so position 0 tells that a trip begins
  trip_begins : (c : ℕ) → position f c ≡ 0 → stays_aboard f c ≡ false
  unfolding stays_aboard
  trip_begins zero e = refl
  trip_begins (suc c) e =
      ⊎_elim (λ h. absurd (omega (arith, position_next c h))) (λ h. h) (by_bool (stays_aboard f (suc c)))

  trip_stays : (c : ℕ) → (position f c ≡ 0 → ⊥) → stays_aboard f c ≡ true
  trip_stays c e = ⊎_elim (λ h. h) (λ h. absurd (e (position_first c h))) (by_bool (stays_aboard f c))

  -- what a connection adds to the text
  pub begin_text : (c : ℕ) → position f c ≡ 0 → rows_text (rows_at f c) ≡ row_text (start_row f c) ++ row_text (end_row f c)
  unfolding rows_text
  begin_text c e = rw (trip_begins c e, append-nil (row_text (end_row f c)))

  pub stay_text : (c : ℕ) → (position f c ≡ 0 → ⊥) → rows_text (rows_at f c) ≡ row_text (end_row f c)
  unfolding rows_text
  stay_text c e = rw (trip_stays c e, append-nil (row_text (end_row f c)))

  pub begin_length : (c : ℕ) → position f c ≡ 0
      → length (row_text (end_row f c)) + length (row_text (start_row f c)) ≡ length (rows_text (rows_at f c))
  begin_length c e = omega (arith, ap length (begin_text c e), length-append (row_text (start_row f c)) (row_text (end_row f c)))

  -- when a trip leaves again: where it goes on, with its next connection
  pub leaves_on : (c : ℕ) → c + 1 < connections f → stays_aboard f (c + 1) ≡ true → scheduled_departure f (c + 1) ≡ leaves_again f c
  leaves_on c l h = rw (add-one c, lt-ltb (suc c) (connections f) (omega arith), rw (add-one c) at h)

  -- and where it ends, at the last connection or before another trip's, not at all
  pub leaves_last : (c : ℕ) → connections f ≤ c + 1 → scheduled_arrival f c ≡ leaves_again f c
  leaves_last c l = rw (le-ltb (suc c) (connections f) (omega arith))

  pub leaves_before : (c : ℕ) → c + 1 < connections f → stays_aboard f (c + 1) ≡ false → scheduled_arrival f c ≡ leaves_again f c
  leaves_before c l h = rw (lt-ltb (suc c) (connections f) (omega arith), rw (add-one c) at h)

  -- the rows of one connection more
  rows_more : (c n : ℕ) → rows_from f c (suc n) ≡ rows_from f c n ++ rows_at f (c + n)
  unfolding rows_from
  rows_more c zero = rw (add-zero c) (append-nil (rows_at f c))
  rows_more c (suc n) =
      let e : suc c + n ≡ c + suc n = omega arith in
      ap (λ (rows : List StopTime). rows_at f c ++ rows) (rows_more (suc c) n ∙ rw e)
      ∙ sym (append_assoc (rows_at f c) (rows_from f (suc c) n) (rows_at f (c + suc n)))

-- the rows of the first connections of a timetable written
unfoldable pub rows_up_to : List ℕ → ℕ → List ℕ
rows_up_to f c = rows_text (rows_from f 0 c)

module _ (f : List ℕ) where
  -- of none, of one more, and of all
  pub up_to_none : rows_up_to f 0 ≡ []
  unfolding rows_up_to rows_from rows_text
  up_to_none = refl

  pub up_to_next : (c : ℕ) → rows_up_to f (c + 1) ≡ rows_up_to f c ++ rows_text (rows_at f c)
  unfolding rows_up_to
  up_to_next c = rw (add-one c, rows_more f 0 c, zero-add c) (rows_append (rows_from f 0 c) (rows_at f c))

  pub up_to_all : header_text ++ rows_up_to f (connections f) ≡ text_of f
  unfolding rows_up_to text_of
  up_to_all = refl

  -- and how long these are
  pub length_all : length (text_of f) ≡ length header_text + length (rows_up_to f (connections f))
  length_all = rw (← up_to_all) (length-append header_text (rows_up_to f (connections f)))

  pub length_next : (c : ℕ) → length (rows_up_to f (c + 1)) ≡ length (rows_up_to f c) + length (rows_text (rows_at f c))
  length_next c = rw (up_to_next c) (length-append (rows_up_to f c) (rows_text (rows_at f c)))

  length_up_to : (c n : ℕ) → length (rows_up_to f c) ≤ length (rows_up_to f (c + n))
  length_up_to c zero = rw (add-zero c) (omega arith)
  length_up_to c (suc n) =
      let e : c + suc n ≡ c + n + 1 = omega arith in
      rw e (omega (arith, length_up_to c n, length_next (c + n)))

  -- the rows of a connection end within the text
  pub rows_within : (c : ℕ) → c < connections f
      → length header_text + length (rows_up_to f c) + length (rows_text (rows_at f c)) ≤ length (text_of f)
  rows_within c l =
      let e : c + 1 + (connections f - (c + 1)) ≡ connections f = omega arith in
      let h = rw e at (length_up_to (c + 1) (connections f - (c + 1))) in
      omega (arith, length_next c, length_all)

  module _ (t : Timetable f) where
    -- the times in the rows are times of the timetable
    pub departs_within : (c : ℕ) → c < connections f → scheduled_departure f c ≤ last_scheduled
    departs_within c l = omega (arith, t.forward c l, t.within c l)

    pub leaves_within : (c : ℕ) → c < connections f → leaves_again f c ≤ last_scheduled
    leaves_within c l =
        ⊎_elim
        (λ (h : trip_goes_on f c ≡ true).
        let n = ltb-true (suc c) (connections f) (and_left (ltb (suc c) (connections f)) (stays_aboard f (suc c)) h) in
        rw h (departs_within (suc c) n))
        (λ (h : trip_goes_on f c ≡ false). rw h (t.within c l))
        (by_bool (trip_goes_on f c))

    -- a connection's trip is at most its number
    pub trip_low : (c : ℕ) → c < connections f → trip f c < suc c
    trip_low c l =
        let passed = (below_passed (connection_verdict f) (suc c)).1
        (λ (k : ℕ) (h : k < suc c). connection_passes f k (good_connection f t k (omega arith))) in
        rw (one_back c) at (trip_before f (suc c) (omega arith) passed)

    -- so no row is longer than one may be
    pub start_short : (c : ℕ) → c < connections f → length (row_text (start_row f c)) ≤ row_room
    start_short c l =
        let few : c ≤ max_number = omega (arith, t.few) in
        row_short (start_row f c) (omega (arith, trip_low c l)) (omega (arith, t.from_stop_lem c l, t.few_stops)) (omega arith)

    pub end_short : (c : ℕ) → c < connections f → length (row_text (end_row f c)) ≤ row_room
    end_short c l =
        let few : c + 1 ≤ max_number = omega (arith, t.few) in
        row_short (end_row f c) (omega (arith, trip_low c l)) (omega (arith, t.to_stop c l, t.few_stops)) (omega (arith, position_low f c))

    rows_short : (c : ℕ) → c < connections f → length (rows_text (rows_at f c)) ≤ 2 * row_room
    rows_short c l =
        ⊎_elim
        (λ (e : position f c ≡ 0).
        omega (arith, begin_length f c e, start_short c l, end_short c l))
        (λ (e : position f c ≡ 0 → ⊥). omega (arith, ap length (stay_text f c e), end_short c l))
        (by_eq (position f c) 0)

    -- nor the rows longer than two for each connection
    pub up_to_short : (c : ℕ) → c ≤ connections f → length (rows_up_to f c) ≤ 2 * row_room * c
    up_to_short zero l = omega (arith, ap length up_to_none)
    up_to_short (suc c) l =
        rw (← add-one c) (omega (arith, length_next c, up_to_short c (omega arith), rows_short c (omega arith)))

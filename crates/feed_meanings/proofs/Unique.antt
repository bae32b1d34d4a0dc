-- What an export has to give is one text: numbers without leading zeros, times with hours of two digits, rows and lines of them are
-- told by what they mean. Assumes nothing.
use Rattle.std.proofs.Common.{◌≡◌, ℕ, zero, suc, ◌+◌, ◌-◌, ◌*◌, ◌/◌, ◌%◌, ◌<◌, ◌≤◌, true, false, ltb, ◌↔◌, List, [], ◌∷◌, ◌++◌, length, get_or, take, None, sym, refl, ap, ◌∙◌, ⊎_elim, arith, length-take-le, take_all, get_or-take, take-suc, ext_get_or, ltb-true}
use Rattle.decimals.specs.Bytes.{newline, digit_zero}
use Rattle.decimals.specs.Decimal.{value_after, value_of, decimal_of}
use Rattle.decimals.proofs.Digits.{decimal_one, decimal_more, value_append}
use Rattle.timetable.specs.File.{connections, stays_aboard}
use Rattle.timetable.specs.Accepted.{Timetable}
use Rattle.timetable.proofs.Tests.{by_lt, by_bool, and_left, and_right}
use Rattle.gtfs.specs.Clock.{colon, time_text}
use Rattle.gtfs.specs.StopTimes.{header_text, row_in}
use Rattle.gtfs.specs.Rows.{trip_goes_on, rows_text, text_of}
use Rattle.gtfs.specs.declared.StopTime.{StopTime}
use Rattle.gtfs.proofs.Clock.{time_bytes}
use Rattle.gtfs.proofs.RowsRead.{row_line, row_line_lem}
use Rattle.round_trips.proofs.TimetableRows.{first_starts}
use Rattle.feed_meanings.specs.Words.{Digits, IsDecimal, IsTime}
use Rattle.feed_meanings.specs.Texts.{row_at}
use Rattle.feed_meanings.specs.Exports.{start_place, Exported, NoLeadingZero, PlainRow, PlainLines, no_line, line_first, ExportedText}
use Rattle.feed_meanings.proofs.Exports.{again_place, exported_rows}
use Rattle.feed_meanings.proofs.Plain.{exported_text}

-- digits more make no number smaller
value_grows : (v : ℕ) (bs : List ℕ) → v ≤ value_after v bs
unfolding value_after
value_grows v [] = omega arith
value_grows v (b ∷ bs) = omega (arith, value_grows (10 * v + (b - digit_zero)) bs)

-- digits that do not begin with 0 are worth something
some_value : (w : List ℕ) → 1 ≤ length w → Digits w → (get_or w 0 0 ≡ digit_zero → ⊥) → 1 ≤ value_of w
unfolding value_after
some_value [] l d n = absurd (omega arith)
some_value (b ∷ w) l d n =
    let h = d 0 (omega arith) in
    let g : b ≡ digit_zero → ⊥ = n in
    omega (arith, value_grows (10 * 0 + (b - digit_zero)) w)

-- a number written without leading zeros
digits_one : (w : List ℕ) → length w ≡ 1 → Digits w → w ≡ decimal_of (value_of w)
unfolding value_after
digits_one [] l d = absurd (omega arith)
digits_one (b ∷ []) l d =
    let h = d 0 (omega arith) in
    let e : digit_zero + (10 * 0 + (b - digit_zero)) ≡ b = omega arith in
    sym (decimal_one (10 * 0 + (b - digit_zero)) (omega arith) ∙ rw e)
digits_one (b ∷ c ∷ w) l d = absurd (omega arith)

digits_unique : (k : ℕ) (w : List ℕ) → length w ≡ suc k → Digits w → NoLeadingZero w → w ≡ decimal_of (value_of w)
digits_unique zero w l d n = digits_one w l d
digits_unique (suc k) w l d n =
    let s = take (suc k) w in
    let b = get_or w (suc k) 0 in
    let few : length s ≡ suc k = length-take-le (suc k) w (omega arith) in
    let whole : w ≡ s ++ (b ∷ []) = sym (take_all (suc (suc k)) w (omega arith)) ∙ take-suc w (suc k) 0 (omega arith) in
    let digits : Digits s = λ i h. rw (get_or-take (suc k) w i 0 (omega arith)) (d i (omega arith)) in
    let first : get_or s 0 0 ≡ digit_zero → ⊥ = λ e. n (omega arith) (sym (get_or-take (suc k) w 0 0 (omega arith)) ∙ e) in
    let last = d (suc k) (omega arith) in
    let some = some_value s (omega arith) digits first in
    let value : value_of w ≡ 10 * value_of s + (b - digit_zero) = ap value_of whole ∙ value_append 0 s b in
    let tenth : value_of w / 10 ≡ value_of s = omega arith in
    let unit : digit_zero + value_of w % 10 ≡ b = omega arith in
    let front = sym (digits_unique k s few digits (λ m. first)) in
    whole ∙ sym (decimal_more (value_of w) (omega arith) ∙ rw (tenth, unit) (ap (λ (x : List ℕ). x ++ (b ∷ [])) front))

decimal_unique : {w : List ℕ} {n : ℕ} → IsDecimal w n → NoLeadingZero w → w ≡ decimal_of n
decimal_unique {w} d z = rw d.value (digits_unique (length w - 1) w (let l = d.some in omega arith) d.digits z)

-- a time written with two digits of hours
hours_two : (h : List ℕ) → length h ≡ 2 → h ≡ get_or h 0 0 ∷ get_or h 1 0 ∷ []
hours_two [] l = absurd (omega arith)
hours_two (a ∷ []) l = absurd (omega arith)
hours_two (a ∷ b ∷ []) l = refl
hours_two (a ∷ b ∷ c ∷ h) l = absurd (omega arith)

time_unique : {w : List ℕ} {t : ℕ} (d : IsTime w t) → length d.hours ≡ 2 → w ≡ time_text t
unfolding value_after
time_unique {w} {t} d l =
    let h = d.hours in
    let a = get_or h 0 0 in
    let b = get_or h 1 0 in
    let two : h ≡ a ∷ b ∷ [] = hours_two h l in
    let da = d.hour_digits 0 (omega arith) in
    let db = d.hour_digits 1 (omega arith) in
    let dt = d.ten_digit in
    let du = d.one_digit in
    let few = d.ten_few in
    let hour : value_of h ≡ 10 * (10 * 0 + (a - digit_zero)) + (b - digit_zero) = ap value_of two in
    let v : t ≡ 60 * value_of h + (10 * (10 * 0 + (d.ten - digit_zero)) + (d.one - digit_zero)) = d.value in
    let e1 : digit_zero + t / 60 / 10 ≡ a = omega arith in
    let e2 : digit_zero + t / 60 % 10 ≡ b = omega arith in
    let e3 : digit_zero + t % 60 / 10 ≡ d.ten = omega arith in
    let e4 : digit_zero + t % 60 % 10 ≡ d.one = omega arith in
    let end : List ℕ = colon ∷ d.ten ∷ d.one ∷ colon ∷ digit_zero ∷ digit_zero ∷ [] in
    let written : time_text t ≡ a ∷ b ∷ end = cc (time_bytes t) in
    d.word ∙ ap (λ (x : List ℕ). x ++ end) two ∙ sym written

-- a row written so
row_unique : {line : List ℕ} {row : StopTime} → PlainRow line row → line ≡ row_line row
unfolding row_line
row_unique p =
    let r = p.is_row_lem in
    r.columns
    ∙ rw (
      decimal_unique r.trip p.trip_plain,
      time_unique r.arrival p.arrival_hours,
      time_unique r.departure p.departure_hours,
      decimal_unique r.stop p.stop_plain,
      decimal_unique r.sequence p.sequence_plain,
    )

-- lines written so
lines_unique : {text : List ℕ} {rows : List StopTime} → PlainLines text rows → text ≡ rows_text rows
unfolding rows_text
lines_unique no_line = refl
lines_unique (line_first {line = line} {text = text} {row = row} {rows = rows} p ls) =
    ap (λ (x : List ℕ). x ++ (newline ∷ text)) (row_unique p)
    ∙ ap (λ (x : List ℕ). row_line row ++ (newline ∷ x)) (lines_unique ls)
    ∙ sym (row_line_lem row (rows_text rows))

-- the rows of a timetable
same_row : {row other : StopTime} → row.trip ≡ other.trip → row.arrival ≡ other.arrival → row.departure ≡ other.departure
    → row.stop ≡ other.stop → row.sequence ≡ other.sequence → row ≡ other
same_row a b c d e = λ i. record { trip = a i; arrival = b i; departure = c i; stop = d i; sequence = e i }

module _ (f : List ℕ) (t : Timetable f) {rows others : List StopTime} (x : Exported f rows) (y : Exported f others) where
  abbrev Same : ℕ → Type 0
  Same i = row_at rows i ≡ row_at others i

  -- the row that a trip begins from
  begins_same : (c : ℕ) → c < connections f → stays_aboard f c ≡ false → Same (start_place f c)
  begins_same c l h =
      let a = x.starts c l in
      let b = y.starts c l in
      same_row
      (a.trip_id_lem ∙ sym b.trip_id_lem)
      (a.first_arrival h ∙ sym (b.first_arrival h))
      (a.departs ∙ sym b.departs)
      (a.stop_id_lem ∙ sym b.stop_id_lem)
      (a.first_sequence h ∙ sym (b.first_sequence h))

  -- when the row that a connection goes to is left
  again_same : (c : ℕ) → suc c < connections f → stays_aboard f (suc c) ≡ true
      → (row_at rows (suc (start_place f c))).departure ≡ (row_at others (suc (start_place f c))).departure
  again_same c l h = rw (← (again_place f c h)) ((x.starts (suc c) l).departs ∙ sym (y.starts (suc c) l).departs)

  left_same : (c : ℕ) → c < connections f → (row_at rows (suc (start_place f c))).departure ≡ (row_at others (suc (start_place f c))).departure
  left_same c l =
      let more = ltb (suc c) (connections f) in
      let stays = stays_aboard f (suc c) in
      ⊎_elim
      (λ h. again_same c (ltb-true (suc c) (connections f) (and_left more stays h)) (and_right more stays h))
      (λ h. (x.goes c l).last_departure h ∙ sym ((y.goes c l).last_departure h))
      (by_bool (trip_goes_on f c))

  -- the row that a connection goes to
  goes_same : (c : ℕ) → c < connections f → Same (start_place f c) → Same (suc (start_place f c))
  goes_same c l h =
      let a = x.goes c l in
      let b = y.goes c l in
      same_row
      (a.trip_id_lem ∙ sym b.trip_id_lem)
      (a.arrives ∙ sym b.arrives)
      (left_same c l)
      (a.stop_id_lem ∙ sym b.stop_id_lem)
      (x.by_ones c l ∙ ap (λ (row : StopTime). suc row.sequence) h ∙ sym (y.by_ones c l))

  starts_same : (c : ℕ) → c < connections f → Same (start_place f c)
  starts_same zero l = begins_same 0 l (first_starts f)
  starts_same (suc c) l =
      let before = goes_same c (omega arith) (starts_same c (omega arith)) in
      ⊎_elim (λ h. rw (again_place f c h) before) (begins_same (suc c) l) (by_bool (stays_aboard f (suc c)))

  -- both rows of a connection, and all up to them
  here_same : (c : ℕ) → c < connections f → (i : ℕ) → start_place f c ≤ i → i ≤ suc (start_place f c) → Same i
  here_same c l i g h =
      let start = starts_same c l in
      ⊎_elim
      (λ (b : i < suc (start_place f c)). let e : i ≡ start_place f c = omega arith in rw e start)
      (λ (b : suc (start_place f c) ≤ i). let e : i ≡ suc (start_place f c) = omega arith in rw e (goes_same c l start))
      (by_lt i (suc (start_place f c)))

  place_next : (c : ℕ) → suc c < connections f → start_place f (suc c) ≤ suc (suc (start_place f c))
  place_next c l = ⊎_elim (λ e. omega arith) (λ e. omega arith) (t.trips c l)

  up_to_same : (c : ℕ) → c < connections f → (i : ℕ) → i ≤ suc (start_place f c) → Same i
  up_to_same zero l i h = here_same 0 l i (omega (arith, t.first_trip l)) h
  up_to_same (suc c) l i h =
      ⊎_elim
      (λ (b : i < start_place f (suc c)). up_to_same c (omega arith) i (omega (arith, place_next c l)))
      (λ (b : start_place f (suc c) ≤ i). here_same (suc c) l i b h)
      (by_lt i (start_place f (suc c)))

  -- all of them
  by_count : (n : ℕ) → n ≡ connections f → rows ≡ others
  by_count zero e = x.none (sym e) ∙ sym (y.none (sym e))
  by_count (suc c) e =
      let n = x.as_many c e in
      ext_get_or (row_in None) rows others
      (n ∙ sym (y.as_many c e))
      (λ i l. up_to_same c (omega arith) i (omega arith))

  rows_same : rows ≡ others
  rows_same = by_count (connections f) refl

-- a text is what an export of a timetable has to give exactly if it is the timetable's text
pub exported_iff : (f : List ℕ) → Timetable f → (text : List ℕ) → ExportedText f text ↔ (text ≡ text_of f)
unfolding text_of
exported_iff f t text = (
  λ e.
      e.header
      ∙ ap (λ (body : List ℕ). header_text ++ body)
      (lines_unique e.lines ∙ ap rows_text (rows_same f t e.exported (exported_rows f t))),
  λ e. rw e (exported_text f t),
)

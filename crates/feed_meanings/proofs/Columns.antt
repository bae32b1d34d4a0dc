-- A line is read as a row exactly if it has the five columns of one. Assumes nothing.
use Rattle.std.proofs.Common.{◌≡◌, ℕ, Bool, true, false, cond, ◌&&◌, eqb, ◌↔◌, List, [], ◌∷◌, ◌++◌, is_some, Some, None, Option, refl, ap, ◌∙◌, ⊎_elim, arith}
use Rattle.decimals.specs.Bytes.{digit_zero}
use Rattle.decimals.specs.Decimal.{is_digit, all_digits, decimal}
use Rattle.timetable.proofs.Tests.{by_bool, not_both}
use Rattle.cuts.specs.Cut.{has, before, after}
use Rattle.gtfs.specs.Clock.{colon, time_of}
use Rattle.gtfs.specs.StopTimes.{comma, number_in, row_from, row_of}
use Rattle.gtfs.specs.declared.StopTime.{StopTime}
use Rattle.cuts.proofs.Cut.{cut_whole, after_none, before_end, after_end, has_append, digits_without}
use Rattle.feed_meanings.specs.Words.{IsDecimal, IsTime, IsRow}
use Rattle.feed_meanings.proofs.Words.{both, digits, is_digit_lem, decimal_iff, time_iff}

module _ (byte : ℕ) where
  -- a byte that is another
  one_without : (b : ℕ) → eqb b byte ≡ false → has byte (b ∷ []) ≡ false
  unfolding has
  one_without b e = rw e

  -- a decimal has digits alone, a time digits and colons, a row commas too
  module _ (no_digit : is_digit byte ≡ false) where
    decimal_without : {w : List ℕ} {n : ℕ} → IsDecimal w n → has byte w ≡ false
    decimal_without {w} d = digits_without byte w no_digit ((digits w).1 d.digits)

    module _ (no_colon : eqb colon byte ≡ false) where
      time_without : {w : List ℕ} {t : ℕ} → IsTime w t → has byte w ≡ false
      unfolding all_digits
      time_without d =
          let minutes : List ℕ = d.ten ∷ d.one ∷ [] in
          let are-digits : all_digits minutes ≡ true = rw (is_digit_lem d.ten d.ten_digit, is_digit_lem d.one d.one_digit) in
          let minutes-without = digits_without byte minutes no_digit are-digits in
          let zeros-without = digits_without byte (digit_zero ∷ digit_zero ∷ []) no_digit refl in
          rw d.word
          (has_append byte d.hours _ (digits_without byte d.hours no_digit ((digits d.hours).1 d.hour_digits))
          (has_append byte (colon ∷ []) _ (one_without colon no_colon)
          (has_append byte minutes _ minutes-without (has_append byte (colon ∷ []) _ (one_without colon no_colon) zeros-without))))

      pub row_without : eqb comma byte ≡ false → {line : List ℕ} {row : StopTime} → IsRow line row → has byte line ≡ false
      row_without no-comma r =
          let next : (w t : List ℕ) → has byte w ≡ false → has byte t ≡ false → has byte (w ++ (comma ∷ t)) ≡ false =
          λ w t h k. has_append byte w (comma ∷ t) h (has_append byte (comma ∷ []) t (one_without comma no-comma) k) in
          rw r.columns
          (next _ _ (decimal_without r.trip)
          (next _ _ (time_without r.arrival)
          (next _ _ (time_without r.departure) (next _ _ (decimal_without r.stop) (decimal_without r.sequence)))))

-- the number of a word that is read
number_is : (m : Option ℕ) → is_some m ≡ true → m ≡ Some (number_in m)
number_is (Some n) h = refl
number_is None h = absurd (not_both h refl)

-- a row is read where a test passes alone
reads_row : (b : Bool) (r row : StopTime) → cond b (Some r) None ≡ Some row → (b ≡ true) × (r ≡ row)
reads_row true r row h = (refl, (cc))
reads_row false r row h = absurd (let z : ◌≡◌ {A = ℕ} 0 1 = cc in omega arith)

-- each column of a row is read
columns_read : (a b c d e : Option ℕ) (row : StopTime) → row_from a b c d e ≡ Some row
    → (a ≡ Some row.trip) × (b ≡ Some row.arrival) × (c ≡ Some row.departure) × (d ≡ Some row.stop) × (e ≡ Some row.sequence)
columns_read a b c d e row h =
    let r = reads_row _ _ row h in
    let h3 = both (is_some a && is_some b && is_some c && is_some d) (is_some e) r.0 in
    let h2 = both (is_some a && is_some b && is_some c) (is_some d) h3.0 in
    let h1 = both (is_some a && is_some b) (is_some c) h2.0 in
    let h0 = both (is_some a) (is_some b) h1.0 in (
      number_is a h0.0 ∙ ap (λ (x : StopTime). Some x.trip) r.1,
      number_is b h0.1 ∙ ap (λ (x : StopTime). Some x.arrival) r.1,
      number_is c h1.1 ∙ ap (λ (x : StopTime). Some x.departure) r.1,
      number_is d h2.1 ∙ ap (λ (x : StopTime). Some x.stop) r.1,
      number_is e h3.1 ∙ ap (λ (x : StopTime). Some x.sequence) r.1,
    )

-- an empty word is neither a number nor a time
no_decimal : {n : ℕ} → decimal [] ≡ Some n → ⊥
unfolding decimal
no_decimal h = let z : ◌≡◌ {A = ℕ} 0 1 = cc in omega arith

no_time : {t : ℕ} → time_of [] ≡ Some t → ⊥
unfolding time_of
no_time h = let z : ◌≡◌ {A = ℕ} 0 1 = cc in omega arith

-- a line with something after a comma
column : (line : List ℕ) → (after comma line ≡ [] → ⊥) → line ≡ before comma line ++ (comma ∷ after comma line)
column line h =
    ⊎_elim (λ e. cut_whole comma line e) (λ e. absurd (h (after_none comma line e))) (by_bool (has comma line))

after_comma : (w : List ℕ) {s t : List ℕ} → s ≡ t → w ++ (comma ∷ s) ≡ w ++ (comma ∷ t)
after_comma w e = ap (λ (l : List ℕ). w ++ (comma ∷ l)) e

-- a line that is read has the columns of a row
row_is : (line : List ℕ) (row : StopTime) → row_of line ≡ Some row → IsRow line row
unfolding row_of before
row_is line row h =
    let line1 = after comma line in
    let line2 = after comma line1 in
    let line3 = after comma line2 in
    let trip = before comma line in
    let arrival = before comma line1 in
    let departure = before comma line2 in
    let stop = before comma line3 in
    let sequence = after comma line3 in
    let r = columns_read (decimal trip) (time_of arrival) (time_of departure) (decimal stop) (decimal sequence) row h in
    let c0 = column line (λ e. no_time (rw e at r.1)) in
    let c1 = column line1 (λ e. no_time (rw e at r.2)) in
    let c2 = column line2 (λ e. no_decimal (rw e at r.3)) in
    let c3 = column line3 (λ e. no_decimal (rw e at r.4)) in
    record {
      trip_word = trip;
      arrival_word = arrival;
      departure_word = departure;
      stop_word = stop;
      sequence_word = sequence;
      columns = c0 ∙ after_comma trip (c1 ∙ after_comma arrival (c2 ∙ after_comma departure c3));
      trip = (decimal_iff trip row.trip).0 r.0;
      arrival = (time_iff arrival row.arrival).0 r.1;
      departure = (time_iff departure row.departure).0 r.2;
      stop = (decimal_iff stop row.stop).0 r.3;
      sequence = (decimal_iff sequence row.sequence).0 r.4;
    }

-- and a line with the columns of a row is read
row_read : (line : List ℕ) (row : StopTime) → IsRow line row → row_of line ≡ Some row
unfolding row_of
row_read line row r =
    let n0 = decimal_without comma refl r.trip in
    let n1 = time_without comma refl refl r.arrival in
    let n2 = time_without comma refl refl r.departure in
    let n3 = decimal_without comma refl r.stop in
    rw (
      r.columns,
      before_end comma r.trip_word _ n0,
      after_end comma r.trip_word _ n0,
      before_end comma r.arrival_word _ n1,
      after_end comma r.arrival_word _ n1,
      before_end comma r.departure_word _ n2,
      after_end comma r.departure_word _ n2,
      before_end comma r.stop_word _ n3,
      after_end comma r.stop_word _ n3,
      (decimal_iff r.trip_word row.trip).1 r.trip,
      (time_iff r.arrival_word row.arrival).1 r.arrival,
      (time_iff r.departure_word row.departure).1 r.departure,
      (decimal_iff r.stop_word row.stop).1 r.stop,
      (decimal_iff r.sequence_word row.sequence).1 r.sequence,
    )

-- a line is read as a row exactly if it is one
pub row_iff : (line : List ℕ) (row : StopTime) → (row_of line ≡ Some row) ↔ IsRow line row
row_iff line row = (row_is line row, row_read line row)

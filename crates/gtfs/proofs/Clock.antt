-- Laws of times of day: which words are none, what one is, which bytes it has, and that a time written is read again. Assumes nothing.
use Rattle.std.proofs.Common.{◌≡◌, ℕ, ◌+◌, ◌-◌, ◌*◌, ◌/◌, ◌%◌, ◌<◌, ◌≤◌, Bool, true, false, cond, ◌&&◌, ◌||◌, eqb, leb, List, [], ◌∷◌, length, get_or, take, drop, Some, None, sym, refl, ap, ◌∙◌, ⊎_elim, arith, length-drop, take-append-drop, drop_of_length-le, length-take, drop-cons, eq-eqb, ne_eqb, eqb-true, le-leb, leb-true}
use mathlib.Core.Bool.{and-false}
use Rattle.decimals.specs.Bytes.{digit_zero, digit_nine}
use Rattle.decimals.specs.Decimal.{max_digits, max_number, is_digit, all_digits, value_after, value_of, decimal}
use Rattle.std.proofs.lemmas.Option.{cond_some}
use Rattle.timetable.proofs.Tests.{by_lt, by_bool, not_both, and_left, and_right, and_both, or_cases, or_left, or_right}
use Rattle.cuts.specs.Cut.{has}
use Rattle.gtfs.specs.Clock.{colon, hour_minutes, digit_five, clock_end, is_clock_end, minute_of, time_of, time_text}
use Rattle.cuts.proofs.Cut.{has_at, has_append, digits_without}

-- each of seven tests
seven : (a b c d e f g : Bool) → a && b && c && d && e && f && g ≡ true
    → (a ≡ true) × (b ≡ true) × (c ≡ true) × (d ≡ true) × (e ≡ true) × (f ≡ true) × (g ≡ true)
seven a b c d e f g h =
    let first6 : a && b && c && d && e && f ≡ true = and_left (a && b && c && d && e && f) g h in
    let first5 : a && b && c && d && e ≡ true = and_left (a && b && c && d && e) f first6 in
    let first4 : a && b && c && d ≡ true = and_left (a && b && c && d) e first5 in
    let first3 : a && b && c ≡ true = and_left (a && b && c) d first4 in
    let first2 : a && b ≡ true = and_left (a && b) c first3 in (
      and_left a b first2,
      and_right a b first2,
      and_right (a && b) c first3,
      and_right (a && b && c) d first4,
      and_right (a && b && c && d) e first5,
      and_right (a && b && c && d && e) f first6,
      and_right (a && b && c && d && e && f) g h,
    )

digit_from : (b : ℕ) → is_digit b ≡ true → digit_zero ≤ b
digit_from b h = leb-true digit_zero b (and_left (leb digit_zero b) (leb b digit_nine) h)

digit_to : (b : ℕ) → is_digit b ≡ true → b ≤ digit_nine
digit_to b h = leb-true b digit_nine (and_right (leb digit_zero b) (leb b digit_nine) h)

digit_byte : (b : ℕ) → digit_zero ≤ b → b ≤ digit_nine → is_digit b ≡ true
digit_byte b l m = and_both (leb digit_zero b) (leb b digit_nine) (le-leb digit_zero b l) (le-leb b digit_nine m)

-- what six bytes that are :MM:00 pass
abbrev Passes : List ℕ → Type 0
Passes w =
    (eqb (get_or w 0 0) colon ≡ true) × (is_digit (get_or w 1 0) ≡ true) × (leb (get_or w 1 0) digit_five ≡ true)
    × (is_digit (get_or w 2 0) ≡ true) × (eqb (get_or w 3 0) colon ≡ true) × (eqb (get_or w 4 0) digit_zero ≡ true)
    × (eqb (get_or w 5 0) digit_zero ≡ true)

passes : (w : List ℕ) → is_clock_end w ≡ true → Passes w
unfolding is_clock_end
passes w h = seven
    (eqb (get_or w 0 0) colon)
    (is_digit (get_or w 1 0))
    (leb (get_or w 1 0) digit_five)
    (is_digit (get_or w 2 0))
    (eqb (get_or w 3 0) colon)
    (eqb (get_or w 4 0) digit_zero)
    (eqb (get_or w 5 0) digit_zero)
    h

-- the minute by its digits
pub minute_value : (w : List ℕ) → 3 ≤ length w → minute_of w ≡ 10 * (get_or w 1 0 - digit_zero) + (get_or w 2 0 - digit_zero)
unfolding value_after
minute_value w h = rw (drop-cons w 1 0 (omega arith), drop-cons w 2 0 (omega arith)) (omega arith)

-- a word of another length is no time
pub time_length : (w : List ℕ) → (length w ≡ 7 → ⊥) → (length w ≡ 8 → ⊥) → time_of w ≡ None
unfolding time_of
time_length w h g = rw (ne_eqb (length w) 7 h, ne_eqb (length w) 8 g)

-- the hours of a word, and the rest
abbrev pub hours_in : List ℕ → List ℕ
hours_in w = take (length w - clock_end) w

abbrev pub end_in : List ℕ → List ℕ
end_in w = drop (length w - clock_end) w

-- a word that does not end in :MM:00 is no time
pub time_endless : (w : List ℕ) → is_clock_end (end_in w) ≡ false → time_of w ≡ None
unfolding time_of
time_endless w h = rw (h, and-false)

-- one or two digits are a number below 100
hours_below : (s : List ℕ) → length s ≤ 2 → all_digits s ≡ true → value_of s < 100
unfolding all_digits value_after
hours_below [] l h = omega arith
hours_below (a ∷ []) l h = omega (arith, digit_to a (and_left (is_digit a) true h))
hours_below (a ∷ b ∷ []) l h =
    omega (
      arith,
      digit_to a (and_left (is_digit a) (is_digit b && true) h),
      digit_to b (and_left (is_digit b) true (and_right (is_digit a) (is_digit b && true) h)),
    )
hours_below (a ∷ b ∷ c ∷ s) l h = absurd (omega arith)

-- one or two bytes are a number if they are digits
hours_decimal : (s : List ℕ) → 1 ≤ length s → length s ≤ 2 → decimal s ≡ cond (all_digits s) (Some (value_of s)) None
unfolding decimal
hours_decimal s l m =
    ⊎_elim
    (λ (h : all_digits s ≡ true).
    rw (
      le-leb 1 (length s) l,
      le-leb (length s) max_digits (omega arith),
      h,
      le-leb (value_of s) max_number (omega (arith, hours_below s m h)),
    ))
    (λ (h : all_digits s ≡ false). rw (le-leb 1 (length s) l, le-leb (length s) max_digits (omega arith), h))
    (by_bool (all_digits s))

-- which way a test went
went_false : (b : Bool) (v : ℕ) → cond b (Some v) None ≡ None → b ≡ false
went_false true v e = cc
went_false false v e = refl

module _ (w : List ℕ) (l : 7 ≤ length w) (m : length w ≤ 8) where
  length_fits : eqb (length w) 7 || eqb (length w) 8 ≡ true
  length_fits =
      ⊎_elim
      (λ h. or_left (eqb (length w) 7) (eqb (length w) 8) (eq-eqb (length w) 7 (omega arith)))
      (λ h. or_right (eqb (length w) 7) (eqb (length w) 8) (eq-eqb (length w) 8 (omega arith)))
      (by_lt (length w) 8)

  read_hours : decimal (hours_in w) ≡ cond (all_digits (hours_in w)) (Some (value_of (hours_in w))) None
  read_hours =
      let e = length-take (length w - clock_end) w in
      hours_decimal (hours_in w) (omega arith) (omega arith)

  -- the hours are those digits, and below 100
  hours_are : (h : ℕ) → decimal (hours_in w) ≡ Some h → (all_digits (hours_in w) ≡ true) × (value_of (hours_in w) ≡ h)
  hours_are h d = cond_some (all_digits (hours_in w)) (value_of (hours_in w)) h (sym read_hours ∙ d)

  pub hours_few : (h : ℕ) → decimal (hours_in w) ≡ Some h → h < 100
  hours_few h d =
      let e = length-take (length w - clock_end) w in
      let t = hours_are h d in
      omega (arith, hours_below (hours_in w) (omega arith) t.0, t.1)

  -- a word whose hours are no number is no time
  pub time_hourless : decimal (hours_in w) ≡ None → time_of w ≡ None
  unfolding time_of
  time_hourless d = rw (length_fits, went_false (all_digits (hours_in w)) (value_of (hours_in w)) (sym read_hours ∙ d))

  -- a word of hours and :MM:00 is the time of its hours and its minute
  pub time_is : (h : ℕ) → is_clock_end (end_in w) ≡ true → decimal (hours_in w) ≡ Some h → time_of w ≡ Some (hour_minutes * h + minute_of (end_in w))
  unfolding time_of
  time_is h e d =
      let t = hours_are h d in
      rw (length_fits, t.0, e, t.1)

-- the eight bytes of a time: the hour's two digits, the minute's, and two zeros, with colons between
pub time_bytes : (t : ℕ) → time_text t ≡
    (digit_zero + t / hour_minutes / 10) ∷ (digit_zero + t / hour_minutes % 10) ∷ colon ∷
    (digit_zero + t % hour_minutes / 10) ∷ (digit_zero + t % hour_minutes % 10) ∷ colon ∷ digit_zero ∷ digit_zero ∷ []
unfolding time_text
time_bytes t = refl

pub length_time : (t : ℕ) → length (time_text t) ≡ 8
length_time t = rw (time_bytes t)

-- a time with hours of two digits, written and read, is itself
pub time_read : (t : ℕ) → t < 6000 → time_of (time_text t) ≡ Some t
unfolding time_of is_clock_end all_digits value_after
time_read t h =
    let a = t / hour_minutes / 10 in
    let b = t / hour_minutes % 10 in
    let c = t % hour_minutes / 10 in
    let d = t % hour_minutes % 10 in
    rw (
      time_bytes t,
      digit_byte (digit_zero + a) (omega arith) (omega arith),
      digit_byte (digit_zero + b) (omega arith) (omega arith),
      digit_byte (digit_zero + c) (omega arith) (omega arith),
      le-leb (digit_zero + c) digit_five (omega arith),
      digit_byte (digit_zero + d) (omega arith) (omega arith),
    )
    (ap Some (omega arith))

-- a byte that is neither a digit nor a colon
module _ (byte : ℕ) (n : is_digit byte ≡ false) (m : byte ≡ colon → ⊥) where
  no_digit : (b : ℕ) → is_digit b ≡ true → eqb b byte ≡ false
  no_digit b d = ne_eqb b byte (λ (e : b ≡ byte). not_both (rw e at d) n)

  no_colon : (b : ℕ) → eqb b colon ≡ true → eqb b byte ≡ false
  no_colon b c = ne_eqb b byte (λ (e : b ≡ byte). m (sym e ∙ eqb-true b colon c))

  no_zero : (b : ℕ) → eqb b digit_zero ≡ true → eqb b byte ≡ false
  no_zero b z = no_digit b (rw (eqb-true b digit_zero z))

  -- six bytes that are :MM:00 are without it
  end_without : (w : List ℕ) → length w ≡ clock_end → is_clock_end w ≡ true → has byte w ≡ false
  unfolding has
  end_without w l h =
      let t = passes w h in
      has_at byte w 0 (omega arith)
      ∙ rw (
        no_colon (get_or w 0 0) t.0,
        has_at byte w 1 (omega arith),
        no_digit (get_or w 1 0) t.1,
        has_at byte w 2 (omega arith),
        no_digit (get_or w 2 0) t.3,
        has_at byte w 3 (omega arith),
        no_colon (get_or w 3 0) t.4,
        has_at byte w 4 (omega arith),
        no_zero (get_or w 4 0) t.5,
        has_at byte w 5 (omega arith),
        no_zero (get_or w 5 0) t.6,
        drop_of_length-le w {i = 6} (omega arith),
      )

  -- and so is a word that is read as a time
  pub clock_without : (w : List ℕ) (t : ℕ) → time_of w ≡ Some t → has byte w ≡ false
  unfolding time_of
  clock_without w t r =
      let hours = hours_in w in
      let end = end_in w in
      let fits = eqb (length w) 7 || eqb (length w) 8 in
      let both = fits && all_digits hours in
      let passed = (cond_some (both && is_clock_end end) (hour_minutes * value_of hours + minute_of end) t r).0 in
      let first = and_left both (is_clock_end end) passed in
      let long : clock_end ≤ length w =
      ⊎_elim
      (λ e. omega (arith, eqb-true (length w) 7 e))
      (λ e. omega (arith, eqb-true (length w) 8 e))
      (or_cases (eqb (length w) 7) (eqb (length w) 8) (and_left fits (all_digits hours) first)) in
      rw (take-append-drop (length w - clock_end) w) at (has_append byte hours end
      (digits_without byte hours n (and_right fits (all_digits hours) first))
      (end_without end (omega (arith, length-drop (length w - clock_end) w)) (and_right both (is_clock_end end) passed)))

-- a time written is without it too
pub time_without : (byte t : ℕ) → t < 6000 → is_digit byte ≡ false → (byte ≡ colon → ⊥) → has byte (time_text t) ≡ false
time_without byte t h n m = clock_without byte n m (time_text t) t (time_read t h)

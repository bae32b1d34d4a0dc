-- A word that is a time, byte by byte from its end on: hours, then :MM:00. Assumes nothing.
use Rattle.std.proofs.Common.{◌≡◌, ℕ, ◌+◌, ◌-◌, ◌*◌, ◌<◌, ◌≤◌, true, ◌⊎◌, List, [], length, get_or, take, Some, None, Option, sym, refl, ap, ◌∙◌, inl, inr, ⊎_elim, arith, length-drop, length-take}
use Rattle.std.proofs.lemmas.List.{get_or-drop}
use Rattle.std.proofs.lemmas.Option.{none-some}
use Rattle.std.proofs.lemmas.Bool.Decides.{nat_tests}
use Rattle.decimals.specs.Bytes.{digit_zero, digit_nine}
use Rattle.decimals.specs.Decimal.{decimal}
use Rattle.decimals.proofs.Reading.{decimal_none}
use Rattle.timetable.proofs.Tests.{by_lt, by_bool}
use Rattle.gtfs.specs.Clock.{colon, hour_minutes, digit_five, clock_end, is_clock_end, time_of}
use Rattle.gtfs.proofs.Clock.{hours_in, end_in, minute_value, time_length, time_endless, time_hourless, time_is, hours_few}

-- a word ends in :MM:00
pub record EndsRight (w : List ℕ) : Type 0 where
  pub room : clock_end ≤ length w
  pub first_colon : get_or w (length w - 6) 0 ≡ colon
  pub tens_from : digit_zero ≤ get_or w (length w - 5) 0
  pub tens_to : get_or w (length w - 5) 0 ≤ digit_five
  pub ones_from : digit_zero ≤ get_or w (length w - 4) 0
  pub ones_to : get_or w (length w - 4) 0 ≤ digit_nine
  pub second_colon : get_or w (length w - 3) 0 ≡ colon
  pub tens_zero : get_or w (length w - 2) 0 ≡ digit_zero
  pub ones_zero : get_or w (length w - 1) 0 ≡ digit_zero

end_byte : (w : List ℕ) (i : ℕ) → clock_end ≤ length w → i ≤ 6 → get_or (end_in w) i 0 ≡ get_or w (length w - (6 - i)) 0
end_byte w i h l = get_or-drop (length w - clock_end) w i 0 ∙ ap (λ k. get_or w k 0) (omega arith)

end_read : (w : List ℕ) → clock_end ≤ length w → is_clock_end (end_in w) ≡ true → EndsRight w
unfolding is_clock_end
end_read w h e =
    let b0 = end_byte w 0 h (omega arith) in
    let b1 = end_byte w 1 h (omega arith) in
    let b2 = end_byte w 2 h (omega arith) in
    let b3 = end_byte w 3 h (omega arith) in
    let b4 = end_byte w 4 h (omega arith) in
    let b5 = end_byte w 5 h (omega arith) in
    grind (arith, nat_tests)

end_right : (w : List ℕ) → EndsRight w → is_clock_end (end_in w) ≡ true
unfolding is_clock_end
end_right w r =
    let b0 = end_byte w 0 r.room (omega arith) in
    let b1 = end_byte w 1 r.room (omega arith) in
    let b2 = end_byte w 2 r.room (omega arith) in
    let b3 = end_byte w 3 r.room (omega arith) in
    let b4 = end_byte w 4 r.room (omega arith) in
    let b5 = end_byte w 5 r.room (omega arith) in
    grind (arith, nat_tests)

-- hours that are a number, of two bytes at most, are below 100
pub hours_known : (w : List ℕ) (h : ℕ) → decimal (take (length w - 6) w) ≡ Some h → length (take (length w - 6) w) ≤ 2
    → (7 ≤ length w) × (length w ≤ 8) × (h < 100)
hours_known w h d two =
    let n = length-take (length w - 6) w in
    ⊎_elim
    (λ (l : length w < 7).
    let e : length w - 6 ≡ 0 = omega arith in
    let n : Some h ≡ None = sym d ∙ rw e (decimal_none [] (omega arith)) in
    absurd (none-some h (sym n)))
    (λ (l : 7 ≤ length w). (l, omega arith, hours_few w l (omega arith) h d))
    (by_lt (length w) 7)

some_or_none : (o : Option ℕ) → (o ≡ None) ⊎ ((h : ℕ) × (o ≡ Some h))
some_or_none None = inl refl
some_or_none (Some h) = inr (h, refl)

-- a word is no time, or it ends right and its hours are a number
pub time_cases : (w : List ℕ) → (time_of w ≡ time_of w)
    × ((time_of w ≡ None) ⊎ (EndsRight w × (length (take (length w - 6) w) ≤ 2) × ((h : ℕ) × (decimal (take (length w - 6) w) ≡ Some h))))
time_cases w = (
  refl,
  ⊎_elim
      (λ (l : length w < 7). inl (time_length w (λ e. omega arith) (λ e. omega arith)))
      (λ (l : 7 ≤ length w).
      ⊎_elim
      (λ (m : length w < 9).
      ⊎_elim
      (λ e.
      ⊎_elim
      (λ n. inl (time_hourless w l (omega arith) n))
      (λ h. inr (end_read w (omega arith) e, omega (arith, length-take (length w - 6) w), h))
      (some_or_none (decimal (hours_in w))))
      (λ e. inl (time_endless w e))
      (by_bool (is_clock_end (end_in w))))
      (λ (m : 9 ≤ length w). inl (time_length w (λ e. omega arith) (λ e. omega arith)))
      (by_lt (length w) 9))
      (by_lt (length w) 7),
)

-- the time of a word by its hours and the digits of its minute
pub time_value : (w : List ℕ) (h : ℕ) → decimal (take (length w - 6) w) ≡ Some h → EndsRight w → length (take (length w - 6) w) ≤ 2
    → time_of w ≡ Some (hour_minutes * h + 10 * (get_or w (length w - 5) 0 - digit_zero) + (get_or w (length w - 4) 0 - digit_zero))
time_value w h d r two =
    let k = hours_known w h d two in
    let six = length-drop (length w - clock_end) w in
    let b1 = end_byte w 1 r.room (omega arith) in
    let b2 = end_byte w 2 r.room (omega arith) in
    let m = minute_value (end_in w) (omega arith) in
    time_is w k.0 k.1 h (end_right w r) d ∙ ap Some (omega arith)

-- what the reading of a word goes by
pub ruleset clock_words = (time_cases, time_value, hours_known)

-- Words are read exactly as they have to be: decimals, times, and rows of five columns. Assumes nothing.
use Rattle.std.proofs.Common.{◌≡◌, ℕ, zero, suc, ◌+◌, ◌-◌, ◌*◌, ◌<◌, ◌≤◌, Bool, true, false, cond, ◌&&◌, ◌||◌, eqb, leb, ◌↔◌, List, [], ◌∷◌, ◌++◌, length, get_or, take, drop, Some, None, sym, refl, ap, ◌∙◌, ⊎_elim, arith, length-append, length-drop, take-append-drop, length-take, take_at, drop_at, eq-eqb, eqb-true, le-leb, leb-true}
use Rattle.decimals.specs.Bytes.{digit_zero, digit_nine}
use Rattle.decimals.specs.Decimal.{is_digit, all_digits, value_of, decimal}
use Rattle.timetable.proofs.Tests.{and_left, and_right, and_both, by_lt, or_cases, or_left, or_right}
use Rattle.gtfs.specs.Clock.{colon, digit_five, clock_end, is_clock_end, minute_of, time_of}
use Rattle.feed_meanings.specs.Words.{IsDigit, Digits, IsDecimal, IsTime}

-- a number is read where a test passes alone
reads : (b : Bool) (m n : ℕ) → cond b (Some m) None ≡ Some n → (b ≡ true) × (n ≡ m)
reads true m n h = (refl, (cc))
reads false m n h = absurd (let z : ◌≡◌ {A = ℕ} 0 1 = cc in omega arith)

-- both of two tests
pub both : (a b : Bool) → a && b ≡ true → (a ≡ true) × (b ≡ true)
both a b h = (and_left a b h, and_right a b h)

-- digits
digit : (b : ℕ) → is_digit b ≡ true → IsDigit b
digit b h =
    record {
      from_zero = leb-true digit_zero b (and_left (leb digit_zero b) (leb b digit_nine) h);
      to_nine = leb-true b digit_nine (and_right (leb digit_zero b) (leb b digit_nine) h);
    }

pub is_digit_lem : (b : ℕ) → IsDigit b → is_digit b ≡ true
is_digit_lem b d = rw (le-leb digit_zero b d.from_zero, le-leb b digit_nine d.to_nine)

first_digit : (b : ℕ) (w : List ℕ) → IsDigit b → Digits w → Digits (b ∷ w)
first_digit b w d r zero l = d
first_digit b w d r (suc i) l = r i (omega arith)

pub digits : (w : List ℕ) → (all_digits w ≡ true) ↔ Digits w
unfolding all_digits
digits [] = (λ h i l. absurd (omega arith), λ d. refl)
digits (b ∷ w) = (
  λ h.
      first_digit b w
      (digit b (and_left (is_digit b) (all_digits w) h))
      ((digits w).0 (and_right (is_digit b) (all_digits w) h)),
  λ d. and_both (is_digit b) (all_digits w) (is_digit_lem b (d 0 (omega arith))) ((digits w).1 (λ i l. d (suc i) (omega arith))),
)

-- a word is a number exactly if it is its decimal
pub decimal_iff : (w : List ℕ) (n : ℕ) → (decimal w ≡ Some n) ↔ IsDecimal w n
unfolding decimal
decimal_iff w n =
    let some = leb 1 (length w) in
    let few = leb (length w) 5 in
    let fits = leb (value_of w) 65535 in (
      λ h.
          let r = reads (some && few && all_digits w && fits) (value_of w) n h in
          let a = both (some && few && all_digits w) fits r.0 in
          let b = both (some && few) (all_digits w) a.0 in
          let c = both some few b.0 in
          record {
            some = leb-true 1 (length w) c.0;
            few = leb-true (length w) 5 c.1;
            digits = (digits w).0 b.1;
            value = r.1;
            fits = rw r.1 (leb-true (value_of w) 65535 a.1);
          },
      λ d.
          let f : value_of w ≤ 65535 = rw (← d.value) d.fits in
          rw (le-leb 1 (length w) d.some, le-leb (length w) 5 d.few, (digits w).1 d.digits, le-leb (value_of w) 65535 f, d.value),
    )

-- the six bytes after the hours
six : (e : List ℕ) → length e ≡ 6 → e ≡ get_or e 0 0 ∷ get_or e 1 0 ∷ get_or e 2 0 ∷ get_or e 3 0 ∷ get_or e 4 0 ∷ get_or e 5 0 ∷ []
six [] h = absurd (omega arith)
six (a ∷ []) h = absurd (omega arith)
six (a ∷ b ∷ []) h = absurd (omega arith)
six (a ∷ b ∷ c ∷ []) h = absurd (omega arith)
six (a ∷ b ∷ c ∷ d ∷ []) h = absurd (omega arith)
six (a ∷ b ∷ c ∷ d ∷ x ∷ []) h = absurd (omega arith)
six (a ∷ b ∷ c ∷ d ∷ x ∷ y ∷ []) h = refl
six (a ∷ b ∷ c ∷ d ∷ x ∷ y ∷ z ∷ e) h = absurd (omega arith)

-- a colon, minutes, a colon and two zeros
clock_end_lem : (e : List ℕ) → length e ≡ 6 → is_clock_end e ≡ true
    → (e ≡ colon ∷ get_or e 1 0 ∷ get_or e 2 0 ∷ colon ∷ digit_zero ∷ digit_zero ∷ [])
    × IsDigit (get_or e 1 0)
    × (get_or e 1 0 ≤ digit_five)
    × IsDigit (get_or e 2 0)
unfolding is_clock_end
clock_end_lem e l h =
    let t0 = eqb (get_or e 0 0) colon in
    let t1 = is_digit (get_or e 1 0) in
    let t2 = leb (get_or e 1 0) digit_five in
    let t3 = is_digit (get_or e 2 0) in
    let t4 = eqb (get_or e 3 0) colon in
    let t5 = eqb (get_or e 4 0) digit_zero in
    let t6 = eqb (get_or e 5 0) digit_zero in
    let h5 = both (t0 && t1 && t2 && t3 && t4 && t5) t6 h in
    let h4 = both (t0 && t1 && t2 && t3 && t4) t5 h5.0 in
    let h3 = both (t0 && t1 && t2 && t3) t4 h4.0 in
    let h2 = both (t0 && t1 && t2) t3 h3.0 in
    let h1 = both (t0 && t1) t2 h2.0 in
    let h0 = both t0 t1 h1.0 in
    let e0 = eqb-true (get_or e 0 0) colon h0.0 in
    let e3 = eqb-true (get_or e 3 0) colon h3.1 in
    let e4 = eqb-true (get_or e 4 0) digit_zero h4.1 in
    let e5 = eqb-true (get_or e 5 0) digit_zero h5.1 in
    (cc (six e l), digit _ h0.1, leb-true _ _ h1.1, digit _ h2.1)

-- a word of this form is read
time_read : {w : List ℕ} {t : ℕ} (d : IsTime w t)
    → time_of (d.hours ++ (colon ∷ d.ten ∷ d.one ∷ colon ∷ digit_zero ∷ digit_zero ∷ [])) ≡ Some t
unfolding time_of is_clock_end
time_read d =
    let h = d.hours in
    let end : List ℕ = colon ∷ d.ten ∷ d.one ∷ colon ∷ digit_zero ∷ digit_zero ∷ [] in
    let l : length (h ++ end) ≡ length h + 6 = length-append h end in
    let n : length h ≡ length (h ++ end) - 6 = omega arith in
    let long : eqb (length (h ++ end)) 7 || eqb (length (h ++ end)) 8 ≡ true =
    ⊎_elim
    (λ (e : length h < 2). or_left _ (eqb (length (h ++ end)) 8) (eq-eqb (length (h ++ end)) 7 (let g = d.some_hours in omega arith)))
    (λ (e : 2 ≤ length h). or_right (eqb (length (h ++ end)) 7) _ (eq-eqb (length (h ++ end)) 8 (let g = d.few_hours in omega arith)))
    (by_lt (length h) 2) in
    rw (
      long,
      take_at h end _ n,
      drop_at h end _ n,
      (digits h).1 d.hour_digits,
      is_digit_lem d.ten d.ten_digit,
      le-leb d.ten digit_five d.ten_few,
      is_digit_lem d.one d.one_digit,
      d.value,
    )

-- a word is a time exactly if it has this form
pub time_iff : (w : List ℕ) (t : ℕ) → (time_of w ≡ Some t) ↔ IsTime w t
unfolding time_of is_clock_end
time_iff w t =
    let hours = take (length w - clock_end) w in
    let end = drop (length w - clock_end) w in
    let one = eqb (length w) 7 in
    let two = eqb (length w) 8 in (
      λ h.
          let r = reads ((one || two) && all_digits hours && is_clock_end end) (60 * value_of hours + minute_of end) t h in
          let a = both ((one || two) && all_digits hours) (is_clock_end end) r.0 in
          let b = both (one || two) (all_digits hours) a.0 in
          let long : (7 ≤ length w) × (length w ≤ 8) =
          ⊎_elim
          (λ e. let n = eqb-true (length w) 7 e in (omega arith, omega arith))
          (λ e. let n = eqb-true (length w) 8 e in (omega arith, omega arith))
          (or_cases one two b.0) in
          let c = clock_end_lem end (rw (length-drop (length w - clock_end) w) (omega arith)) a.1 in
          record {
            hours = hours;
            ten = get_or end 1 0;
            one = get_or end 2 0;
            word = rw (← c.0) (sym (take-append-drop (length w - clock_end) w));
            some_hours = rw (length-take (length w - clock_end) w) (omega arith);
            few_hours = rw (length-take (length w - clock_end) w) (omega arith);
            hour_digits = (digits hours).0 b.1;
            ten_digit = c.1;
            ten_few = c.2;
            one_digit = c.3;
            value = r.1 ∙ ap (λ (l : List ℕ). 60 * value_of hours + minute_of l) c.0;
          },
      λ d. rw d.word (time_read d),
    )

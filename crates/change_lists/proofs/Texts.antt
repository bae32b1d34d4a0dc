-- Laws of transfer times as a text: numbers one a line, one more, and how long. Assumes nothing.
use Rattle.std.proofs.Common.{◌≡◌, ℕ, suc, ◌+◌, ◌*◌, ◌<◌, ◌≤◌, List, [], ◌∷◌, ◌++◌, length, get_or, take, drop, sym, refl, ap, ◌∙◌, append_assoc, append-nil, add-one, arith, length-append, take-append-drop, take_all, take-suc}
use Rattle.numbers.specs.Numbers.{numbers_of}
use Rattle.timetable.specs.File.{stops, transfer_time}
use Rattle.timetable.specs.Accepted.{Timetable}
use Rattle.decimals.specs.Bytes.{newline}
use Rattle.decimals.specs.Decimal.{decimal_of}
use Rattle.decimals.proofs.Digits.{digits_few}
use Rattle.gtfs.specs.Files.{transfers_in}
use Rattle.gtfs.specs.StopTimes.{number_cell}
use Rattle.gtfs.proofs.Transfers.{count_transfers, transfer_in_lem, transfers_low}
use Rattle.change_lists.specs.ChangeText.{numbers_text, changes_text}

-- the text of two lists
text_append : (ns ms : List ℕ) → numbers_text (ns ++ ms) ≡ numbers_text ns ++ numbers_text ms
unfolding numbers_text
text_append [] ms = refl
text_append (n ∷ ns) ms = rw (text_append ns ms, append_assoc (number_cell n newline) (numbers_text ns) (numbers_text ms))

-- one number more
text_more : (ns : List ℕ) (i : ℕ) → i < length ns
    → numbers_text (take i ns) ++ number_cell (get_or ns i 0) newline ≡ numbers_text (take (i + 1) ns)
unfolding numbers_text
text_more ns i h =
    rw (add-one i, take-suc ns i 0 h, text_append (take i ns) (get_or ns i 0 ∷ []), append-nil (number_cell (get_or ns i 0) newline))

-- at most two digits and a newline for a number below 100
text_short : (ns : List ℕ) → ((i : ℕ) → get_or ns i 0 < 100) → length (numbers_text ns) ≤ 3 * length ns
unfolding numbers_text
text_short [] h = omega arith
text_short (n ∷ ns) h =
    rw (length-append (number_cell n newline) (numbers_text ns), length-append (decimal_of n) (newline ∷ []))
    (omega (arith, text_short ns (λ (i : ℕ). h (suc i)), digits_few 1 n (h 0)))

-- the front of a text is no longer
front_short : (ns : List ℕ) (i : ℕ) → length (numbers_text (take i ns)) ≤ length (numbers_text ns)
front_short ns i =
    let whole = ap numbers_text (sym (take-append-drop i ns)) ∙ text_append (take i ns) (drop i ns) in
    omega (arith, ap length whole, length-append (numbers_text (take i ns)) (numbers_text (drop i ns)))

module _ (f : List ℕ) (t : Timetable f) where
  -- the lines of the first stops, and the line of the next
  pub change_more : (i : ℕ) → i < stops f
      → numbers_text (take i (numbers_of (transfers_in f))) ++ number_cell (transfer_time f i) newline
      ≡ numbers_text (take (i + 1) (numbers_of (transfers_in f)))
  change_more i h = rw (← transfer_in_lem f t i h) (text_more (numbers_of (transfers_in f)) i (omega (arith, count_transfers f t)))

  -- they fit into three bytes for each stop
  pub change_fits : (i : ℕ) → i < stops f
      → length (numbers_text (take i (numbers_of (transfers_in f)))) + (length (decimal_of (transfer_time f i)) + 1) ≤ 3 * stops f
  change_fits i h =
      let ns = numbers_of (transfers_in f) in
      omega (
        arith,
        ap length (change_more i h),
        length-append (numbers_text (take i ns)) (number_cell (transfer_time f i) newline),
        length-append (decimal_of (transfer_time f i)) (newline ∷ []),
        front_short ns (i + 1),
        text_short ns (λ (j : ℕ). omega (arith, transfers_low f t j)),
        count_transfers f t,
      )

  -- the lines of all stops
  pub changes_all : (i : ℕ) → stops f ≤ i → numbers_text (take i (numbers_of (transfers_in f))) ≡ changes_text f
  changes_all i h = rw (take_all i (numbers_of (transfers_in f)) (omega (arith, count_transfers f t)))

  pub changes_fit : length (changes_text f) ≤ 3 * stops f
  changes_fit = omega (arith, text_short (numbers_of (transfers_in f)) (λ (j : ℕ). omega (arith, transfers_low f t j)), count_transfers f t)

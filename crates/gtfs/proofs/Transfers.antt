-- The transfer times of a file as numbers: how many, and which. Assumes nothing.
use Rattle.std.proofs.Common.{◌≡◌, ℕ, ◌+◌, ◌*◌, ◌<◌, ◌≤◌, List, length, get_or, drop, ◌∙◌, ⊎_elim, arith, length-drop, length-take-le, get_or-drop, get_or-take}
use lib.ListN.{get_or-eq_default}
use Rattle.numbers.specs.Numbers.{numbers_of}
use Rattle.numbers.proofs.Areas.{length_numbers, number_at_lem}
use Rattle.timetable.specs.File.{header_length, stops, transfer_time}
use Rattle.timetable.specs.Check.{max_transfer_time}
use Rattle.timetable.specs.Accepted.{Timetable}
use Rattle.timetable.proofs.Tests.{by_lt}
use Rattle.gtfs.specs.Files.{transfers_in}

module _ (f : List ℕ) (t : Timetable f) where
  -- two bytes for each stop
  pub length_transfers : length (transfers_in f) ≡ 2 * stops f
  length_transfers = length-take-le (2 * stops f) (drop header_length f) (omega (arith, length-drop header_length f, t.long))

  -- as many numbers as stops
  pub count_transfers : length (numbers_of (transfers_in f)) ≡ stops f
  count_transfers = omega (arith, length_numbers (transfers_in f), length_transfers)

  -- the number of stop s is its transfer time
  pub transfer_in_lem : (s : ℕ) → s < stops f → get_or (numbers_of (transfers_in f)) s 0 ≡ transfer_time f s
  unfolding transfer_time
  transfer_in_lem s h =
      let n = 2 * stops f in
      let d = drop header_length f in
      let e : header_length + 2 * s + 1 ≡ header_length + (2 * s + 1) = omega arith in
      number_at_lem (transfers_in f) s (omega (arith, length_transfers))
      ∙ rw (
        get_or-take n d (2 * s) 0 (omega arith),
        get_or-take n d (2 * s + 1) 0 (omega arith),
        get_or-drop header_length f (2 * s) 0,
        get_or-drop header_length f (2 * s + 1) 0,
        e,
      )

  -- so none is above the longest, whatever the place
  pub transfers_low : (s : ℕ) → get_or (numbers_of (transfers_in f)) s 0 ≤ max_transfer_time
  transfers_low s =
      ⊎_elim
      (λ (h : s < stops f). rw (transfer_in_lem s h) (t.transfers s h))
      (λ (h : stops f ≤ s). rw (get_or-eq_default (numbers_of (transfers_in f)) 0 {n = s} (omega (arith, count_transfers))) (omega arith))
      (by_lt s (stops f))

-- Transfer times written and read again are themselves: each line of the text is a decimal, and its number the one written.
-- Assumes nothing.
use Rattle.std.proofs.Common.{◌≡◌, ℕ, suc, ◌*◌, ◌≤◌, List, [], ◌∷◌, length, get_or, Ok, refl, ◌∙◌, append_assoc, arith}
use Rattle.numbers.specs.Numbers.{numbers_of}
use Rattle.timetable.specs.File.{stops}
use Rattle.timetable.specs.Accepted.{Timetable}
use Rattle.decimals.specs.Bytes.{newline}
use Rattle.decimals.specs.Decimal.{max_number, decimal_of}
use Rattle.decimals.proofs.Digits.{digits_only, decimal_read}
use Rattle.cuts.specs.Cut.{lines_of}
use Rattle.gtfs.specs.Files.{transfers_in}
use Rattle.cuts.proofs.Cut.{digits_without, line_more}
use Rattle.gtfs.proofs.Transfers.{count_transfers, transfers_low}
use Rattle.change_lists.specs.ChangeText.{line_numbers, lines_read, change_numbers, numbers_text, changes_text}
use Rattle.change_lists.proofs.Lines.{no_line, numbers_more, read_more}

-- the line of a number in front of others
first_line : (n : ℕ) (ns : List ℕ) → lines_of (numbers_text (n ∷ ns)) ≡ decimal_of n ∷ lines_of (numbers_text ns)
unfolding numbers_text
first_line n ns =
    rw (append_assoc (decimal_of n) (newline ∷ []) (numbers_text ns))
    (line_more (decimal_of n) (numbers_text ns) (digits_without newline (decimal_of n) refl (digits_only n)))

-- the numbers of numbers written are these
numbers_read : (ns : List ℕ) → ((i : ℕ) → get_or ns i 0 ≤ max_number) → change_numbers (numbers_text ns) ≡ ns
unfolding numbers_text line_numbers
numbers_read [] h = rw no_line
numbers_read (n ∷ ns) h =
    rw (first_line n ns)
    (numbers_more (decimal_of n) (numbers_text ns) ∙ rw (decimal_read n (h 0), numbers_read ns (λ (i : ℕ). h (suc i))))

-- and each line is read
lines_right : (ns : List ℕ) → ((i : ℕ) → get_or ns i 0 ≤ max_number) → (k bytes : ℕ)
    → lines_read k bytes (lines_of (numbers_text ns)) ≡ Ok bytes
unfolding numbers_text lines_read
lines_right [] h k bytes = rw no_line
lines_right (n ∷ ns) h k bytes =
    rw (first_line n ns)
    (read_more (decimal_of n) (numbers_text ns) n (decimal_read n (h 0)) k bytes ∙ lines_right ns (λ (i : ℕ). h (suc i)) (suc k) bytes)

module _ (f : List ℕ) (t : Timetable f) where
  small : (i : ℕ) → get_or (numbers_of (transfers_in f)) i 0 ≤ max_number
  small i = omega (arith, transfers_low f t i)

  -- the transfer times of a timetable, written and read, are themselves
  pub changes_again : change_numbers (changes_text f) ≡ numbers_of (transfers_in f)
  changes_again = numbers_read (numbers_of (transfers_in f)) small

  -- and are read whole, two bytes for each stop
  pub changes_whole : lines_read 1 (2 * length (change_numbers (changes_text f))) (lines_of (changes_text f)) ≡ Ok (2 * stops f)
  changes_whole =
      lines_right (numbers_of (transfers_in f)) small 1 (2 * length (change_numbers (changes_text f)))
      ∙ rw (changes_again, count_transfers f t)

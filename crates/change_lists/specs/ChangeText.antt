-- The transfer times of stops as a text, one decimal a line. Assumes nothing.
use Rattle.std.specs.Prelude.{◌≡◌, cond, Option, Some, None, is_some, Result, Ok, Err, List, [], ◌∷◌, ◌++◌, ℕ, suc, ◌+◌, ◌*◌, ◌≤◌, eqb, length, drop}
use Rattle.numbers.specs.Numbers.{numbers_of, bytes_of}
use Rattle.decimals.specs.Bytes.{newline}
use Rattle.decimals.specs.Decimal.{decimal}
use Rattle.cuts.specs.Cut.{lines_of}
use Rattle.gtfs.specs.StopTimes.{number_in, number_cell}
use Rattle.gtfs.specs.Files.{transfers_in}

-- the numbers of lines: each is a decimal but what stands after the last newline
unfoldable pub line_numbers : List (List ℕ) → List ℕ
line_numbers [] = []
line_numbers (l ∷ []) = []
line_numbers (l ∷ m ∷ ls) = number_in (decimal l) ∷ line_numbers (m ∷ ls)

-- the first line from line k on that is no decimal, if there is one; what stands after the last newline must be nothing
unfoldable pub lines_read : ℕ → ℕ → List (List ℕ) → Result ℕ ℕ
lines_read k bytes [] = Ok bytes
lines_read k bytes (l ∷ []) = cond (eqb (length l) 0) (Ok bytes) (Err k)
lines_read k bytes (l ∷ m ∷ ls) = let rest = lines_read (suc k) bytes (m ∷ ls) in cond (is_some (decimal l)) rest (Err k)

-- the numbers of a text
abbrev pub change_numbers : List ℕ → List ℕ
change_numbers text = line_numbers (lines_of text)

-- the line of a text that starts at a place is a number, and the next line starts at another place
pub record NumberLine (n next : ℕ) (text : List ℕ) (at : ℕ) : Type 0 where
  pub longer : at + 2 ≤ next
  pub within : next ≤ length text
  pub numbers : change_numbers (drop at text) ≡ n ∷ change_numbers (drop next text)
  pub goes_on : (k bytes : ℕ) → lines_read k bytes (lines_of (drop at text)) ≡ lines_read (suc k) bytes (lines_of (drop next text))

-- a line of a text that starts at a place: such a number, or wrong
abbrev pub LineRead : Option (ℕ × ℕ) → List ℕ → ℕ → Type 0
LineRead (Some (n, next)) text at = NumberLine n next text at
LineRead None text at = (k bytes : ℕ) → lines_read k bytes (lines_of (drop at text)) ≡ Err k

-- what the reading of a text of transfer times leaves: its numbers' bytes at the front of an area, or its first wrong line
pub record ChangesRead (r : Result ℕ ℕ) (after before text : List ℕ) : Type 0 where
  pub told : r ≡ lines_read 1 (2 * length (change_numbers text)) (lines_of text)
  pub within : (n : ℕ) → r ≡ Ok n → n ≤ length after
  pub stands : (n : ℕ) → r ≡ Ok n → after ≡ bytes_of (change_numbers text) ++ drop n before

-- numbers written one a line
unfoldable pub numbers_text : List ℕ → List ℕ
numbers_text [] = []
numbers_text (n ∷ ns) = number_cell n newline ++ numbers_text ns

-- the transfer times of a timetable, one a line
abbrev pub changes_text : List ℕ → List ℕ
changes_text f = numbers_text (numbers_of (transfers_in f))

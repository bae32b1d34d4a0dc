-- Notices, the notice area, and its check. Row width, room, area length and limits are named here and nowhere else.
-- Assumes nothing.
use Rattle.std.specs.Prelude.{◌≡◌, Bool, true, false, cond, not, ◌&&◌, List, [], ◌∷◌, ◌++◌, ℕ, zero, suc, ◌+◌, ◌*◌, ◌-◌, ◌≤◌, ◌<◌, ltb, leb, eqb, length, get_or, drop, replicate}
use Rattle.refusals.specs.Answers.{refuse_if, or_else, Verdict, Passed}
use Rattle.model.specs.declared.Notice.{Notice}
use Rattle.refusals.specs.RefusalNumber as refusal

-- the numbers of one row
abbrev pub width : ℕ
width = 3

-- how many notices may stand
abbrev pub room : ℕ
room = 200

-- the notice area's stated length
abbrev pub notices_length : ℕ
notices_length = 1 + width * room

-- the shortest delay, the longest of a posting and the longest of a standing row
abbrev pub least_delay : ℕ
least_delay = 1

abbrev pub most_posted : ℕ
most_posted = 1440

abbrev pub most_standing : ℕ
most_standing = 1440

abbrev pub notice : ℕ → ℕ → ℕ → Notice
notice n c d = record { number = n; connection = c; delay = d }

-- a row that no notice uses
abbrev pub unused_row : Notice
unused_row = notice 0 0 0

-- a row's numbers
abbrev pub numbers_in : Notice → List ℕ
numbers_in n = n.number ∷ n.connection ∷ n.delay ∷ []

-- the row at the front of a list of numbers
abbrev pub row_at : List ℕ → Notice
row_at xs = notice (get_or xs 0 0) (get_or xs 1 0) (get_or xs 2 0)

-- the rows' numbers, row after row
unfoldable pub flat : List Notice → List ℕ
flat [] = []
flat (n ∷ ns) = numbers_in n ++ flat ns

-- the first k rows of a list of numbers
unfoldable pub cut : ℕ → List ℕ → List Notice
cut zero xs = []
cut (suc k) xs = row_at xs ∷ cut k (drop width xs)

-- the notice area of the notices that stand: how many, their rows, zeros
unfoldable pub area_of : List Notice → List ℕ
area_of ns = length ns ∷ (flat ns ++ replicate (width * room - width * length ns) 0)

-- an area with these notices in place of its own; what lies behind it stays
abbrev pub area_with : List Notice → List ℕ → List ℕ
area_with ns area = area_of ns ++ drop notices_length area

-- how many notices stand by an area
abbrev pub count_in : List ℕ → ℕ
count_in area = get_or area 0 0

-- the notices that stand by an area
unfoldable pub rows_of : List ℕ → List Notice
rows_of area = cut (count_in area) (drop 1 area)

-- the area's other rows
abbrev pub unused_of : List ℕ → List Notice
unused_of area = cut (room - count_in area) (drop (1 + width * count_in area) area)

-- one of the notices passes a test
unfoldable pub some : (Notice → Bool) → List Notice → Bool
some test [] = false
some test (n ∷ ns) = cond (test n) true (some test ns)

-- a notice of this number stands
unfoldable pub stands : ℕ → List Notice → Bool
stands m ns = some (λ n. eqb n.number m) ns

-- a notice of this number stands on another connection
unfoldable pub stands_elsewhere : ℕ → ℕ → List Notice → Bool
stands_elsewhere m c ns = some (λ n. eqb n.number m && not (eqb n.connection c)) ns

-- the notices of other numbers
unfoldable pub struck : ℕ → List Notice → List Notice
struck m [] = []
struck m (n ∷ ns) = cond (eqb n.number m) (struck m ns) (n ∷ struck m ns)

-- a notice put before the first of a higher number
unfoldable pub inserted : Notice → List Notice → List Notice
inserted a [] = a ∷ []
inserted a (n ∷ ns) = cond (ltb a.number n.number) (a ∷ n ∷ ns) (n ∷ inserted a ns)

-- a notice entered, in place of the one of its number if that stands
unfoldable pub entered : Notice → List Notice → List Notice
entered a ns = inserted a (struck a.number ns)

-- a standing row is right after a row of the number before; 0 stands before the first row, so that no right number is 0
unfoldable pub stands_right : ℕ → ℕ → Notice → Bool
stands_right C before n = ltb before n.number && ltb n.connection C && leb least_delay n.delay && leb n.delay most_standing

-- an unused row is right if its numbers are 0
unfoldable pub unused_right : Notice → Bool
unused_right n = eqb n.number 0 && eqb n.connection 0 && eqb n.delay 0

-- refusal 23 of some rows of which the first is row k: the first that a test finds wrong after the number of the row before
unfoldable pub rows_from : (ℕ → Notice → Bool) → ℕ → ℕ → List Notice → Verdict
rows_from right k before [] = Passed
rows_from right k before (n ∷ ns) =
    or_else (refuse_if (not (right before n)) refusal.wrong_row k) (rows_from right (suc k) n.number ns)

-- refusal 23 of an area's rows that stand, counted from 1, and of the others
abbrev pub standing_verdict : ℕ → List ℕ → Verdict
standing_verdict C area = rows_from (stands_right C) 1 0 (rows_of area)

abbrev pub unused_verdict : List ℕ → Verdict
unused_verdict area = rows_from (λ before. unused_right) (suc (count_in area)) 0 (unused_of area)

-- refusal 23 of a notice area: at 0 for a count above the room, else at the first wrong row
unfoldable pub rows_verdict : ℕ → List ℕ → Verdict
rows_verdict C area =
    or_else (refuse_if (ltb room (count_in area)) refusal.wrong_row 0) (or_else (standing_verdict C area) (unused_verdict area))

-- a notice within its limits
pub record Within (C : ℕ) (n : Notice) : Type 0 where
  pub exists : n.connection < C
  pub least : least_delay ≤ n.delay
  pub most : n.delay ≤ most_standing

-- rows that may stand after a row of the number before: ascending, each within its limits
abbrev pub Ascending : ℕ → ℕ → List Notice → Type 0
Ascending C before [] = Unit {0}
Ascending C before (n ∷ ns) = (before < n.number) × Within C n × Ascending C n.number ns

-- notices that may stand together
pub record WellFormed (C : ℕ) (ns : List Notice) : Type 0 where
  pub ascending : Ascending C 0 ns
  pub fits : length ns ≤ room

-- an area whose notices may stand together with C connections, and which is that of its notices
pub record Standing (C : ℕ) (area : List ℕ) : Type 0 where
  pub long : notices_length ≤ length area
  pub rows : WellFormed C (rows_of area)
  pub noted : area ≡ area_with (rows_of area) area

-- Laws of the fronts of areas of bytes: what is read there, what is written back, and how many numbers cover what an accepted
-- timetable needs. Assumes nothing.
use Rattle.std.proofs.Common.{◌≡◌, ℕ, ◌≤◌, ◌/◌, List, [], ◌∷◌, ◌++◌, length, take, drop, refl, sym, ap, ◌∙◌, ap₂, arith, take-append-drop}
use lib.Seq.{take-append-le, drop-append-le, take-nil}
use Rattle.numbers.specs.Numbers.{numbers_of, over, over_bytes}
use Rattle.numbers.proofs.Areas.{Bytes, length_numbers, changed_written}
use Rattle.timetable.specs.Check.{max_connections, file_verdict}
use Rattle.timetable.specs.File.{connections}
use Rattle.refusals.specs.Answers.{Passed}
use Rattle.timetable.proofs.Accepted.{accepted_iff}
use Rattle.model.specs.Day.{lent}
use Rattle.model.specs.Drawn.{graph_length, most_graph}
use Rattle.model.proofs.Fronts.{Covers, fronts}
use Rattle.fronts.specs.Fronts.{lent_bytes, ReadFronts}

-- the fronts are long enough for an accepted timetable
pub graph_covers : (f area : List ℕ) → file_verdict f ≡ Passed → Covers most_graph (graph_length f) area
graph_covers f area h = let t = (accepted_iff f).0 h in omega (arith, t.few, t.few_stops)

pub connections_cover : (f area : List ℕ) → file_verdict f ≡ Passed → Covers max_connections (connections f) area
connections_cover f area h = let t = (accepted_iff f).0 h in omega (arith, t.few)

-- what numbers have written over an area is their front
over_part : (ns a : List ℕ) → take (length ns) (over ns a) ≡ take (length a) ns
unfolding over
over_part [] a = simp take-nil
over_part (n ∷ ns) [] = refl
over_part (n ∷ ns) (x ∷ a) = rw (over_part ns a)

pub read_front : (bytes a : List ℕ) → take (length bytes / 2) (over (numbers_of bytes) a) ≡ take (length a) (numbers_of bytes)
read_front bytes a = rw (← length_numbers bytes) (over_part (numbers_of bytes) a)

-- of the numbers a, no more than the first i have changed
pub record Changed (i : ℕ) (a a' : List ℕ) : Type 0 where
  pub kept : length a' ≡ length a
  pub within : i ≤ length a
  pub past : drop i a' ≡ drop i a

-- what has changed of a front, written back, leaves what the whole front leaves with the rest of the area behind it
part_whole : (k i : ℕ) (bytes a a' : List ℕ) → a ≡ take k (numbers_of bytes) → Changed i a a' → Bytes bytes
    → over_bytes (take i a') bytes ≡ over_bytes (a' ++ drop k (numbers_of bytes)) bytes
part_whole k i bytes a a' e c b =
    let ns = numbers_of bytes in
    let rest = drop k ns in
    let l : i ≤ length a' = omega (arith, c.kept, c.within) in
    let p : drop i (a' ++ rest) ≡ drop i ns =
    drop-append-le i a' rest l
    ∙ ap (λ (x : List ℕ). x ++ rest) c.past
    ∙ sym (drop-append-le i a rest c.within)
    ∙ ap (λ (x : List ℕ). drop i (x ++ rest)) e
    ∙ ap (drop i) (take-append-drop k ns) in
    ap (λ (x : List ℕ). over_bytes x bytes) (sym (take-append-le i a' rest l)) ∙ changed_written i (a' ++ rest) bytes p b

-- the fronts of both areas read into a and b
module _ {k m : ℕ} {first second a b : List ℕ} (read : ReadFronts k m first second a b) where
  pub both_front : lent a b ≡ fronts (lent_bytes first second) k m
  both_front = ap₂ lent read.first_read read.second_read

  -- what has changed of the fronts, written back, leaves what the fronts leave with the rest of the areas behind them
  pub first_whole : Bytes first → {i : ℕ} {a' first' : List ℕ} → Changed i a a' → first' ≡ over_bytes (take i a') first
      → first' ≡ over_bytes (a' ++ drop k (numbers_of first)) first
  first_whole p {i} {a'} c e = e ∙ part_whole k i first a a' read.first_read c p

  pub second_whole : Bytes second → {i : ℕ} {b' second' : List ℕ} → Changed i b b' → second' ≡ over_bytes (take i b') second
      → second' ≡ over_bytes (b' ++ drop m (numbers_of second)) second
  second_whole p {i} {b'} c e = e ∙ part_whole m i second b b' read.second_read c p

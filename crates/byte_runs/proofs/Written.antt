-- One area of bytes in a run: what a call writes over it, and what stays. Assumes nothing.
use Rattle.std.proofs.Common.{◌≡◌, ℕ, ◌*◌, ◌≤◌, List, ◌++◌, length, take, drop, sym, refl, ap, ◌∙◌, arith, length-append, length-drop, take-append-drop, length-take, take_all, take_at, drop_at}
use Rattle.numbers.specs.Numbers.{numbers_of, over_bytes}
use Rattle.numbers.proofs.Areas.{Bytes, length_numbers, length_over_bytes, read_written, over_take, changed_written, drop_over_bytes}
use Rattle.byte_runs.specs.Runs.{Past}

-- as many numbers written over an area of bytes as it has: they are what is read then
pub all_written : (xs bytes : List ℕ) → length xs ≡ length (numbers_of bytes) → numbers_of (over_bytes xs bytes) ≡ xs
all_written xs bytes h =
    read_written xs bytes ∙ over_take xs (numbers_of bytes) (omega arith) ∙ take_all (length (numbers_of bytes)) xs (omega arith)

-- an area that began as area₀: from k numbers on it is as then, in bytes and in numbers
pub record Stays (k : ℕ) (area₀ area : List ℕ) : Type 0 where
  pub past : Past k area₀ area
  pub numbers : drop k (numbers_of area) ≡ drop k (numbers_of area₀)

pub stays : (k : ℕ) (area : List ℕ) → Stays k area area
stays k area = record { past = record { as_long = refl; same = refl }; numbers = refl }

-- k numbers and those behind them as they were, written over it
module _ (k : ℕ) (area₀ area front : List ℕ) (fits : k ≤ length (numbers_of area₀)) (long : length front ≡ k)
    (bytes : Bytes area) (s : Stays k area₀ area) (area' : List ℕ)
    (written : area' ≡ over_bytes (front ++ drop k (numbers_of area₀)) area) where
  abbrev rest : List ℕ
  rest = drop k (numbers_of area₀)

  as_many : length (front ++ drop k (numbers_of area₀)) ≡ length (numbers_of area)
  as_many =
      simp (length-append, length-drop)
      (omega (arith, length_numbers area₀, length_numbers area, s.past.as_long))

  pub reads : numbers_of area' ≡ front ++ drop k (numbers_of area₀)
  reads = ap numbers_of written ∙ all_written (front ++ rest) area as_many

  only_front : area' ≡ over_bytes front area
  only_front =
      written
      ∙ ap (λ (t : List ℕ). over_bytes (front ++ t) area) (sym s.numbers)
      ∙ sym (changed_written k (front ++ drop k (numbers_of area)) area (drop_at front (drop k (numbers_of area)) k long) bytes)
      ∙ ap (λ (t : List ℕ). over_bytes t area) (take_at front (drop k (numbers_of area)) k long)

  pub stays_after : Stays k area₀ area'
  stays_after =
      record {
        past = record {
          as_long = ap length only_front ∙ length_over_bytes front area ∙ s.past.as_long;
          same = ap (drop (2 * k)) only_front ∙ drop_over_bytes front area (2 * k) (omega arith) ∙ s.past.same;
        };
        numbers = ap (drop k) reads ∙ drop_at front rest k long;
      }

-- numbers written over a whole area, from k on its own: from there on it stays
pub past_written : (k : ℕ) (xs area area' : List ℕ) → Bytes area → k ≤ length (numbers_of area) → length xs ≡ length (numbers_of area)
    → drop k xs ≡ drop k (numbers_of area) → area' ≡ over_bytes xs area → Past k area area'
past_written k xs area area' bytes fits long e written =
    let p : xs ≡ take k xs ++ drop k (numbers_of area) = sym (take-append-drop k xs) ∙ ap (λ (t : List ℕ). take k xs ++ t) e in
    let l : length (take k xs) ≡ k = rw length-take (omega arith) in
    (stays_after k area area (take k xs) fits l bytes (stays k area) area' (written ∙ ap (λ (t : List ℕ). over_bytes t area) p)).past

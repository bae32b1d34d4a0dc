-- Laws of an area of bytes as an area of numbers: how many numbers, which number stands where, what is written is
-- read again, and what is not written stays; the same of the front of an area. Assumes nothing.
use Rattle.std.proofs.Common.{◌≡◌, ℕ, zero, suc, ◌+◌, ◌*◌, ◌/◌, ◌%◌, ◌<◌, ◌≤◌, min, List, [], ◌∷◌, ◌++◌, length, get_or, take, drop, refl, ap, arith}
use lib.Seq.{take-nil}
use Rattle.numbers.specs.Numbers.{byte_size, number_at, numbers_of, over, over_bytes}

-- a list of bytes
abbrev pub Bytes : List ℕ → Type 0
Bytes bytes = (i : ℕ) → get_or bytes i 0 < byte_size

-- an area has half as many numbers as bytes
pub length_numbers : (bytes : List ℕ) → length (numbers_of bytes) ≡ length bytes / 2
unfolding numbers_of
length_numbers [] = refl
length_numbers (low ∷ []) = refl
length_numbers (low ∷ high ∷ bytes) = rw (length_numbers bytes) (omega arith)

-- the number i stands at place 2 * i
pub number_at_lem : (bytes : List ℕ) (i : ℕ) → i < length bytes / 2 → get_or (numbers_of bytes) i 0 ≡ number_at bytes (2 * i)
unfolding numbers_of
number_at_lem [] i h = absurd (omega arith)
number_at_lem (low ∷ []) i h = absurd (omega arith)
number_at_lem (low ∷ high ∷ bytes) zero h = refl
number_at_lem (low ∷ high ∷ bytes) (suc i) h =
    let e : 2 * suc i + 1 ≡ suc (suc (2 * i + 1)) = omega arith in
    let d : 2 * suc i ≡ suc (suc (2 * i)) = omega arith in
    rw (e, d) (number_at_lem bytes i (omega arith))

-- a number is below 65536 when the bytes are bytes
pub number_fits : (bytes : List ℕ) → Bytes bytes → (p : ℕ) → number_at bytes p < 65536
number_fits bytes b p = omega (arith, b p, b (p + 1))

-- an area of bytes keeps its length
pub length_over_bytes : (ns bytes : List ℕ) → length (over_bytes ns bytes) ≡ length bytes
unfolding over_bytes
length_over_bytes [] bytes = refl
length_over_bytes (n ∷ ns) [] = refl
length_over_bytes (n ∷ ns) (x ∷ []) = refl
length_over_bytes (n ∷ ns) (x ∷ y ∷ bytes) = ap (λ (k : ℕ). suc (suc k)) (length_over_bytes ns bytes)

-- what is written is read again, and the other numbers stay
pub read_written : (ns bytes : List ℕ) → numbers_of (over_bytes ns bytes) ≡ over ns (numbers_of bytes)
unfolding numbers_of over over_bytes
read_written [] bytes = refl
read_written (n ∷ ns) [] = refl
read_written (n ∷ ns) (x ∷ []) = refl
read_written (n ∷ ns) (x ∷ y ∷ bytes) =
    let e : n % byte_size + byte_size * (n / byte_size) ≡ n = omega arith in
    rw (e, read_written ns bytes)

-- an area's own numbers written over it leave it as it is
pub written_read : (bytes : List ℕ) → Bytes bytes → over_bytes (numbers_of bytes) bytes ≡ bytes
unfolding numbers_of over_bytes
written_read [] b = refl
written_read (low ∷ []) b = refl
written_read (low ∷ high ∷ bytes) b =
    let l : (low + byte_size * high) % byte_size ≡ low = omega (arith, b 0) in
    let h : (low + byte_size * high) / byte_size ≡ high = omega (arith, b 0) in
    rw (l, h, written_read bytes (λ (j : ℕ). b (suc (suc j))))

-- an odd last byte stays, whatever is written
pub odd_stays : (ns bytes : List ℕ) (k : ℕ) → length bytes ≡ 2 * k + 1 → get_or (over_bytes ns bytes) (2 * k) 0 ≡ get_or bytes (2 * k) 0
unfolding over_bytes
odd_stays [] bytes k h = refl
odd_stays (n ∷ ns) [] k h = refl
odd_stays (n ∷ ns) (x ∷ []) k h = refl
odd_stays (n ∷ ns) (x ∷ y ∷ bytes) zero h = absurd (omega arith)
odd_stays (n ∷ ns) (x ∷ y ∷ bytes) (suc k) h =
    let d : 2 * suc k ≡ suc (suc (2 * k)) = omega arith in
    rw d (odd_stays ns bytes k (omega arith))

-- bytes past the written numbers stay
pub drop_over_bytes : (ns bytes : List ℕ) (k : ℕ) → 2 * length ns ≤ k → drop k (over_bytes ns bytes) ≡ drop k bytes
unfolding over_bytes
drop_over_bytes [] bytes k h = refl
drop_over_bytes (n ∷ ns) [] k h = refl
drop_over_bytes (n ∷ ns) (x ∷ []) k h = refl
drop_over_bytes (n ∷ ns) (x ∷ y ∷ bytes) zero h = absurd (omega arith)
drop_over_bytes (n ∷ ns) (x ∷ y ∷ bytes) (suc zero) h = absurd (omega arith)
drop_over_bytes (n ∷ ns) (x ∷ y ∷ bytes) (suc (suc k)) h = drop_over_bytes ns bytes k (omega arith)

-- no more numbers than the area has: they are its front
pub over_front : (ns area : List ℕ) → length ns ≤ length area → over ns area ≡ ns ++ drop (length ns) area
unfolding over
over_front [] area h = refl
over_front (n ∷ ns) [] h = absurd (omega arith)
over_front (n ∷ ns) (x ∷ area) h = rw (over_front ns area (omega arith))

-- no fewer numbers than the area has: it is their front
pub over_take : (ns area : List ℕ) → length area ≤ length ns → over ns area ≡ take (length area) ns
unfolding over
over_take [] [] h = refl
over_take [] (x ∷ area) h = absurd (omega arith)
over_take (n ∷ ns) [] h = refl
over_take (n ∷ ns) (x ∷ area) h = rw (over_take ns area (omega arith))

-- the first k of a list, as many as it has
take_least : (k i : ℕ) (l : List ℕ) → i ≡ min k (length l) → take i l ≡ take k l
take_least k i [] h = simp take-nil
take_least zero zero (x ∷ l) h = refl
take_least zero (suc i) (x ∷ l) h = absurd (omega arith)
take_least (suc k) zero (x ∷ l) h = absurd (omega arith)
take_least (suc k) (suc i) (x ∷ l) h = rw (take_least k i l (omega arith))

-- as many numbers as the front of k has: that front
pub front_read : (k : ℕ) (bytes : List ℕ) (i : ℕ) → i ≡ min k (length bytes / 2) → take i (numbers_of bytes) ≡ take k (numbers_of bytes)
front_read k bytes i h = take_least k i (numbers_of bytes) (omega (arith, length_numbers bytes))

-- numbers that differ from an area's own in the first k alone: writing these is writing all
pub changed_written : (k : ℕ) (ns bytes : List ℕ) → drop k ns ≡ drop k (numbers_of bytes) → Bytes bytes
    → over_bytes (take k ns) bytes ≡ over_bytes ns bytes
unfolding numbers_of over_bytes
changed_written zero ns bytes h b = rw (h, written_read bytes b)
changed_written (suc k) [] bytes h b = refl
changed_written (suc k) (n ∷ ns) [] h b = refl
changed_written (suc k) (n ∷ ns) (x ∷ []) h b = refl
changed_written (suc k) (n ∷ ns) (x ∷ y ∷ bytes) h b = rw (changed_written k ns bytes h (λ (i : ℕ). b (suc (suc i))))

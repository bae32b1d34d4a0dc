-- Laws of numbers as bytes: how many, those of two lists, that numbers and bytes give each other, and numbers written into a part of an
-- area. Assumes nothing.
use Rattle.std.proofs.Common.{◌≡◌, ℕ, zero, suc, ◌+◌, ◌-◌, ◌*◌, ◌/◌, ◌%◌, ◌<◌, ◌≤◌, List, [], ◌∷◌, ◌++◌, length, get_or, take, drop, sym, refl, ◌∙◌, append_assoc, append-nil, add-one, arith, drop_of_length-le, drop-cons}
use native.Mathlib.Numerals.{add-two}
use borrow.Rule.Slice.PartMut.{mid_of, put_mid, mid_len, Post-is}
use lib.Seq.{sets, sets-eq}
use Rattle.numbers.specs.Numbers.{byte_size, number_at, numbers_of, bytes_of, over_bytes}
use Rattle.numbers.proofs.Areas.{Bytes}

-- two bytes a number
pub length_bytes : (ns : List ℕ) → length (bytes_of ns) ≡ 2 * length ns
unfolding bytes_of
length_bytes [] = refl
length_bytes (n ∷ ns) = rw (length_bytes ns) (omega arith)

pub bytes_append : (ns ms : List ℕ) → bytes_of (ns ++ ms) ≡ bytes_of ns ++ bytes_of ms
unfolding bytes_of
bytes_append [] ms = refl
bytes_append (n ∷ ns) ms = rw (bytes_append ns ms)

-- numbers written over an area that has room for all: they are its front
pub over_fitting : (ns bytes : List ℕ) → 2 * length ns ≤ length bytes → over_bytes ns bytes ≡ bytes_of ns ++ drop (2 * length ns) bytes
unfolding over_bytes bytes_of
over_fitting [] bytes h = refl
over_fitting (n ∷ ns) [] h = absurd (omega arith)
over_fitting (n ∷ ns) (x ∷ []) h = absurd (omega arith)
over_fitting (n ∷ ns) (x ∷ y ∷ bytes) h =
    let d : 2 * suc (length ns) ≡ suc (suc (2 * length ns)) = omega arith in
    rw (d, over_fitting ns bytes (omega arith))

-- and just as many bytes
pub over_all : (ns bytes : List ℕ) → length bytes ≡ 2 * length ns → over_bytes ns bytes ≡ bytes_of ns
over_all ns bytes h =
    rw (over_fitting ns bytes (omega arith), drop_of_length-le bytes {i = 2 * length ns} (omega arith)) (append-nil (bytes_of ns))

-- the numbers of bytes, as bytes: those that are in a number
pub bytes_numbers : (bytes : List ℕ) → Bytes bytes → bytes_of (numbers_of bytes) ≡ take (2 * length (numbers_of bytes)) bytes
unfolding numbers_of bytes_of
bytes_numbers [] b = refl
bytes_numbers (low ∷ []) b = refl
bytes_numbers (low ∷ high ∷ bytes) b =
    let l : (low + byte_size * high) % byte_size ≡ low = omega (arith, b 0) in
    let h : (low + byte_size * high) / byte_size ≡ high = omega (arith, b 0) in
    let d : 2 * suc (length (numbers_of bytes)) ≡ suc (suc (2 * length (numbers_of bytes))) = omega arith in
    rw (l, h, d, bytes_numbers bytes (λ (j : ℕ). b (suc (suc j))))

-- the numbers of numbers as bytes
pub numbers_bytes : (ns : List ℕ) → numbers_of (bytes_of ns) ≡ ns
unfolding numbers_of bytes_of
numbers_bytes [] = refl
numbers_bytes (n ∷ ns) =
    let e : n % byte_size + byte_size * (n / byte_size) ≡ n = omega arith in
    rw (e, numbers_bytes ns)

-- the number i stands at place 2 * i, whatever follows
pub number_in : (ns rest : List ℕ) (i : ℕ) → i < length ns → number_at (bytes_of ns ++ rest) (2 * i) ≡ get_or ns i 0
unfolding bytes_of
number_in [] rest i h = absurd (omega arith)
number_in (n ∷ ns) rest zero h = omega arith
number_in (n ∷ ns) rest (suc i) h =
    let e : 2 * suc i + 1 ≡ suc (suc (2 * i + 1)) = omega arith in
    let d : 2 * suc i ≡ suc (suc (2 * i)) = omega arith in
    rw (e, d) (number_in ns rest i (omega arith))

-- numbers of 16 bits as bytes are bytes
pub bytes_fit : (ns : List ℕ) → ((i : ℕ) → get_or ns i 0 < 65536) → Bytes (bytes_of ns)
unfolding bytes_of
bytes_fit [] h i = omega arith
bytes_fit (n ∷ ns) h zero = omega arith
bytes_fit (n ∷ ns) h (suc zero) = omega (arith, h 0)
bytes_fit (n ∷ ns) h (suc (suc i)) = bytes_fit ns (λ (j : ℕ). h (suc j)) i

-- the front of a list of bytes is one
pub bytes_take : (n : ℕ) (bytes : List ℕ) → Bytes bytes → Bytes (take n bytes)
bytes_take zero bytes b i = omega arith
bytes_take (suc n) [] b i = omega arith
bytes_take (suc n) (x ∷ bytes) b zero = b 0
bytes_take (suc n) (x ∷ bytes) b (suc i) = bytes_take n bytes (λ (j : ℕ). b (suc j)) i

-- from the number at place p on: its bytes, and those from place q on, where the next number stands
pub number_bytes : (bytes : List ℕ) → Bytes bytes → (p q : ℕ) (ns : List ℕ) → q ≡ p + 2 → q ≤ length bytes → drop q bytes ≡ bytes_of ns
    → drop p bytes ≡ bytes_of (number_at bytes p ∷ ns)
unfolding bytes_of
number_bytes bytes b p q ns e l h =
    let low : number_at bytes p % byte_size ≡ get_or bytes p 0 = omega (arith, b p) in
    let high : number_at bytes p / byte_size ≡ get_or bytes (p + 1) 0 = omega (arith, b p) in
    rw (low, high, ← h, e, drop-cons bytes p 0 (omega arith), drop-cons bytes (suc p) 0 (omega arith), add-one, add-two)

-- numbers written over a part of just as many bytes stand in its place
pub numbers_placed : (area ns last : List ℕ) (at end : ℕ) → at + 2 * length ns ≡ end → end ≤ length area
    → last ≡ over_bytes ns (mid_of at (end - at) area) → put_mid at (end - at) area last ≡ sets area at (bytes_of ns)
numbers_placed area ns last at end e h written =
    let b : length (bytes_of ns) ≡ 2 * length ns = length_bytes ns in
    let d : at + length (bytes_of ns) ≡ end = omega arith in
    let l : length (mid_of at (end - at) area) ≡ 2 * length ns = mid_len at end area h ∙ omega arith in
    rw (Post-is at end area (omega arith), written, over_all ns (mid_of at (end - at) area) l)
    (sym (sets-eq (bytes_of ns) area at (omega arith) ∙ rw (d, append_assoc)))

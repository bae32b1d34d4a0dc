-- The loops that read and write an area: what one turn does, and that the last turn leaves nothing to do.
-- Assumes nothing.
use Rattle.std.proofs.Common.{◌≡◌, ℕ, zero, suc, ◌+◌, ◌*◌, ◌/◌, ◌%◌, ◌<◌, ◌≤◌, min, List, [], ◌∷◌, length, get_or, take, set, refl, add-one, arith}
use lib.Seq.{take-nil}
use Rattle.numbers.specs.Numbers.{byte_size, over, over_bytes}

-- one turn, at suc i
over_suc : (ns area : List ℕ) (i : ℕ) → i < length ns → set (over (take i ns) area) i (get_or ns i 0) ≡ over (take (suc i) ns) area
unfolding over
over_suc [] area i h = absurd (omega arith)
over_suc (n ∷ ns) [] zero h = refl
over_suc (n ∷ ns) [] (suc i) h = refl
over_suc (n ∷ ns) (x ∷ area) zero h = refl
over_suc (n ∷ ns) (x ∷ area) (suc i) h = rw (over_suc ns area i (omega arith))

-- one turn of the reading loop
pub over_turn : (ns area : List ℕ) (i : ℕ) → i < length ns
    → set (over (take i ns) area) i (get_or ns i 0) ≡ over (take (i + 1) ns) area
over_turn ns area i h = rw (add-one i) (over_suc ns area i h)

-- no number is left that the area has room for
pub over_done : (ns area : List ℕ) (i : ℕ) → min (length area) (length ns) ≤ i → over (take i ns) area ≡ over ns area
unfolding over
over_done [] area i h = rw take-nil
over_done (n ∷ ns) [] zero h = refl
over_done (n ∷ ns) [] (suc i) h = refl
over_done (n ∷ ns) (x ∷ area) zero h = absurd (omega arith)
over_done (n ∷ ns) (x ∷ area) (suc i) h = rw (over_done ns area i (omega arith))

-- one turn, at suc i
bytes_suc : (ns bytes : List ℕ) (i : ℕ) → i < length ns → 2 * i + 1 < length bytes
    → set (set (over_bytes (take i ns) bytes) (2 * i) (get_or ns i 0 % byte_size)) (suc (2 * i)) (get_or ns i 0 / byte_size)
    ≡ over_bytes (take (suc i) ns) bytes
unfolding over_bytes
bytes_suc [] bytes i h k = absurd (omega arith)
bytes_suc (n ∷ ns) [] i h k = absurd (omega arith)
bytes_suc (n ∷ ns) (x ∷ []) i h k = absurd (omega arith)
bytes_suc (n ∷ ns) (x ∷ y ∷ bytes) zero h k = refl
bytes_suc (n ∷ ns) (x ∷ y ∷ bytes) (suc i) h k =
    let d : 2 * suc i ≡ suc (suc (2 * i)) = omega arith in
    rw (d, bytes_suc ns bytes i (omega arith) (omega arith))

-- one turn of the writing loop
pub bytes_turn : (ns bytes : List ℕ) (i : ℕ) → i < length ns → 2 * i + 1 < length bytes
    → set (set (over_bytes (take i ns) bytes) (2 * i) (get_or ns i 0 % byte_size)) (2 * i + 1) (get_or ns i 0 / byte_size)
    ≡ over_bytes (take (i + 1) ns) bytes
bytes_turn ns bytes i h k = rw (add-one i, add-one (2 * i)) (bytes_suc ns bytes i h k)

-- no number is left that the bytes have room for
pub bytes_done : (ns bytes : List ℕ) (i : ℕ) → min (length ns) (length bytes / 2) ≤ i
    → over_bytes (take i ns) bytes ≡ over_bytes ns bytes
unfolding over_bytes
bytes_done [] bytes i h = rw take-nil
bytes_done (n ∷ ns) [] zero h = refl
bytes_done (n ∷ ns) [] (suc i) h = refl
bytes_done (n ∷ ns) (x ∷ []) zero h = refl
bytes_done (n ∷ ns) (x ∷ []) (suc i) h = refl
bytes_done (n ∷ ns) (x ∷ y ∷ bytes) zero h = absurd (omega arith)
bytes_done (n ∷ ns) (x ∷ y ∷ bytes) (suc i) h = rw (bytes_done ns bytes i (omega arith))

-- How long the line of an arrival is, and a journey's text connection by connection. Assumes nothing.
use Rattle.std.proofs.Common.{◌≡◌, ℕ, zero, suc, ◌+◌, ◌*◌, ◌<◌, ◌≤◌, List, [], ◌∷◌, ◌++◌, length, get_or, take, sym, ap, append_assoc, append-nil, add-one, arith, length-append, take-suc, w16, Fits}
use Rattle.decimals.specs.Bytes.{space}
use Rattle.labels.specs.Labels.{labelled}
use Rattle.arrivals.specs.Arrivals.{journey_text, arrives_line}
use Rattle.arrivals.specs.Room.{connection_room, arrival_room}
use Rattle.decimals.proofs.Digits.{digits_five}

journey_last : (cs : List ℕ) (c : ℕ) → journey_text (cs ++ (c ∷ [])) ≡ journey_text cs ++ labelled (space ∷ []) c
unfolding journey_text
journey_last [] c = append-nil (labelled (space ∷ []) c)
journey_last (b ∷ cs) c = rw (journey_last cs c) (sym (append_assoc (labelled (space ∷ []) b) (journey_text cs) (labelled (space ∷ []) c)))

-- one connection more
pub journey_turn : (cs : List ℕ) (i : ℕ) → i < length cs
    → journey_text (take i cs) ++ labelled (space ∷ []) (get_or cs i 0) ≡ journey_text (take (i + 1) cs)
journey_turn cs i h = rw (add-one i, take-suc cs i 0 h) (sym (journey_last (take i cs) (get_or cs i 0)))

-- the first connections of a journey need no more than all
journey_part : (cs : List ℕ) (i : ℕ) → length (journey_text (take i cs)) ≤ length (journey_text cs)
unfolding journey_text
journey_part cs zero = omega arith
journey_part [] (suc i) = omega arith
journey_part (c ∷ cs) (suc i) = simp length-append (omega (arith, journey_part cs i))

-- where a journey's text has room, so has its next connection
pub next_room : (cs : List ℕ) (i : ℕ) → i < length cs
    → length (journey_text (take i cs)) + length (labelled (space ∷ []) (get_or cs i 0)) ≤ length (journey_text cs)
next_room cs i h =
    let s = journey_text (take i cs) in
    let t = labelled (space ∷ []) (get_or cs i 0) in
    omega (arith, length-append s t, ap length (journey_turn cs i h), journey_part cs (i + 1))

-- a journey's text has room
pub journey_room : (cs : List ℕ) → ((i : ℕ) → Fits w16 (get_or cs i 0)) → length (journey_text cs) ≤ connection_room * length cs
unfolding journey_text
journey_room [] h = omega arith
journey_room (c ∷ cs) h =
    let first = (h 0).fits in
    rw length-append (omega (arith, digits_five c (omega arith), journey_room cs (λ (i : ℕ). h (suc i))))

-- the line of a journey has room
pub arrives_room : (t : ℕ) (cs : List ℕ) → Fits w16 t → ((i : ℕ) → Fits w16 (get_or cs i 0)) → length (arrives_line t cs) ≤ arrival_room (length cs)
unfolding arrives_line
arrives_room t cs h g = simp length-append (omega (arith, digits_five t (omega arith), journey_room cs g))

-- Rows and the notice area: what is written is read back, and lengths. Assumes nothing.
use Rattle.std.proofs.Common.{◌≡◌, ℕ, zero, suc, ◌+◌, ◌-◌, ◌*◌, ◌≤◌, true, ◌&&◌, eqb, List, [], ◌∷◌, ◌++◌, length, get_or, take, drop, replicate, sym, refl, ap, ◌∙◌, append_assoc, add-zero, arith, length-append, length-drop, take-append-drop, length-take, get_or-drop, drop-cons, drop-drop, take_at, drop_at, eqb-true}
use lib.ListN.{length-replicate, replicate-append-replicate, get_or-append}
use lib.Seq.{drop-append-le}
use Rattle.model.specs.Notices.{notice, width, room, notices_length, unused_row, numbers_in, row_at, flat, cut, area_of, count_in, rows_of, unused_of, unused_right, Standing}
use Rattle.model.specs.declared.Notice.{Notice}
use Rattle.model.proofs.ByCases.{and_left, and_right}

-- One row. How many numbers it has is known to the laws up to `unused_is`, and to none after them.
pub length_row : (n : Notice) → length (numbers_in n) ≡ width
length_row n = refl

-- a row that was written is read back
pub row_read : (n : Notice) (t : List ℕ) → row_at (numbers_in n ++ t) ≡ n
row_read n t = refl

-- a list of a row's numbers or more begins with a row
pub front_row : (xs : List ℕ) → width ≤ length xs → xs ≡ numbers_in (row_at xs) ++ drop width xs
front_row xs h =
    drop-cons xs 0 0 (omega arith)
    ∙ ap (λ (y : List ℕ). get_or xs 0 0 ∷ y) (drop-cons xs 1 0 (omega arith))
    ∙ ap (λ (y : List ℕ). get_or xs 0 0 ∷ get_or xs 1 0 ∷ y) (drop-cons xs 2 0 (omega arith))

-- the row at a place, by its numbers
abbrev pub row_of : List ℕ → ℕ → Notice
row_of xs at = notice (get_or xs at 0) (get_or xs (at + 1) 0) (get_or xs (at + 2) 0)

-- it is the row at the front of what is from there on
pub row_at_lem : (xs : List ℕ) (at : ℕ) → row_at (drop at xs) ≡ row_of xs at
row_at_lem xs at = simp (get_or-drop, add-zero)

-- an unused row is all zeros
pub unused_numbers : numbers_in unused_row ≡ replicate width 0
unused_numbers = refl

pub unused_right_lem : unused_right unused_row ≡ true
unfolding unused_right
unused_right_lem = refl

pub unused_is : (n : Notice) → unused_right n ≡ true → n ≡ unused_row
unfolding unused_right
unused_is n h =
    let number = eqb n.number 0 in
    let connection = eqb n.connection 0 in
    let delay = eqb n.delay 0 in
    let a = and_left (number && connection) delay h in
    let p : n.number ≡ 0 = eqb-true _ _ (and_left number connection a) in
    let q : n.connection ≡ 0 = eqb-true _ _ (and_right number connection a) in
    let r : n.delay ≡ 0 = eqb-true _ _ (and_right (number && connection) delay h) in
    let e : notice n.number n.connection n.delay ≡ unused_row = cc in
    e

-- the numbers of the row at the front
pub take_front : (xs : List ℕ) → width ≤ length xs → take width xs ≡ numbers_in (row_at xs)
take_front xs h =
    ap (take width) (front_row xs h) ∙ take_at (numbers_in (row_at xs)) (drop width xs) width (length_row (row_at xs))

-- a row of zeros is an unused row
pub zero_row : (n : Notice) → numbers_in n ≡ replicate width 0 → n ≡ unused_row
zero_row n h = sym (row_read n []) ∙ ap (λ (y : List ℕ). row_at (y ++ [])) (h ∙ sym unused_numbers) ∙ row_read unused_row []

-- one row further on
pub past_row : (k : ℕ) (xs : List ℕ) → drop (width * suc k) xs ≡ drop (width * k) (drop width xs)
past_row k xs = let e : width * suc k ≡ width + width * k = omega arith in rw (drop-drop, e)

pub length_flat : (ns : List Notice) → length (flat ns) ≡ width * length ns
unfolding flat
length_flat [] = refl
length_flat (n ∷ ns) = length-append (numbers_in n) (flat ns) ∙ omega (arith, length_row n, length_flat ns)

pub length_cut : (k : ℕ) (xs : List ℕ) → length (cut k xs) ≡ k
unfolding cut
length_cut zero xs = refl
length_cut (suc k) xs = ap suc (length_cut k (drop width xs))

-- rows that were written are read back
pub cut_flat : (ns : List Notice) (t : List ℕ) → cut (length ns) (flat ns ++ t) ≡ ns
unfolding cut flat
cut_flat [] t = refl
cut_flat (n ∷ ns) t = ap (λ (r : List Notice). n ∷ r) (cut_flat ns t)

-- rows that were read are as they were written
pub flat_cut : (k : ℕ) (xs : List ℕ) → width * k ≤ length xs → xs ≡ flat (cut k xs) ++ drop (width * k) xs
unfolding cut flat
flat_cut zero xs h = refl
flat_cut (suc k) xs h =
    front_row xs (omega arith)
    ∙ rw past_row (ap (λ (y : List ℕ). numbers_in (row_at xs) ++ y) (flat_cut k (drop width xs) (rw length-drop (omega arith))))

-- the rows of a list that is long enough are those of its front
pub cut_append : (k : ℕ) (xs rest : List ℕ) → width * k ≤ length xs → cut k (xs ++ rest) ≡ cut k xs
cut_append k xs rest h =
    let t = drop (width * k) xs ++ rest in
    ap (λ (y : List ℕ). cut k (y ++ rest)) (flat_cut k xs h)
    ∙ ap (cut k) (append_assoc (flat (cut k xs)) (drop (width * k) xs) rest)
    ∙ ap (λ (m : ℕ). cut m (flat (cut k xs) ++ t)) (sym (length_cut k xs))
    ∙ cut_flat (cut k xs) t

-- they are read from just their numbers
pub cut_take : (k : ℕ) (xs : List ℕ) → width * k ≤ length xs → cut k (take (width * k) xs) ≡ cut k xs
cut_take k xs h =
    sym (cut_append k (take (width * k) xs) (drop (width * k) xs) (rw length-take (omega arith)))
    ∙ ap (cut k) (take-append-drop (width * k) xs)

-- unused rows are zeros
pub flat_unused : (m : ℕ) → flat (replicate m unused_row) ≡ replicate (width * m) 0
unfolding flat
flat_unused zero = refl
flat_unused (suc m) =
    let e : width * suc m ≡ width + width * m = omega arith in
    rw (e, ← (replicate-append-replicate {A = ℕ} width (width * m) 0), flat_unused m)

-- and zeros are unused rows
pub cut_zeros : (m : ℕ) (t : List ℕ) → cut m (replicate (width * m) 0 ++ t) ≡ replicate m unused_row
cut_zeros m t =
    rw (← (flat_unused m))
    (ap (λ (k : ℕ). cut k (flat (replicate m unused_row) ++ t)) (sym (length-replicate {A = Notice} m unused_row))
    ∙ cut_flat (replicate m unused_row) t)

-- the area of notices that fit has its stated length
pub length_area : (ns : List Notice) → length ns ≤ room → length (area_of ns) ≡ notices_length
unfolding area_of
length_area ns h = simp (length-append, length-replicate, length_flat) (omega arith)

-- its first number says how many stand
pub count_area : (ns : List Notice) (rest : List ℕ) → count_in (area_of ns ++ rest) ≡ length ns
unfolding area_of
count_area ns rest = refl

-- the notices that stand by an area are those that it was written for
pub rows_area : (ns : List Notice) (rest : List ℕ) → rows_of (area_of ns ++ rest) ≡ ns
unfolding rows_of area_of
rows_area ns rest = rw append_assoc (cut_flat ns _)

-- what lies past the area
pub past_area : (ns : List Notice) (rest : List ℕ) → length ns ≤ room → drop notices_length (area_of ns ++ rest) ≡ rest
past_area ns rest h = drop_at (area_of ns) rest notices_length (length_area ns h)

-- what lies past the rows that stand
pub past_rows : (ns : List Notice) (rest : List ℕ)
    → drop (1 + width * length ns) (area_of ns ++ rest) ≡ replicate (width * room - width * length ns) 0 ++ rest
unfolding area_of
past_rows ns rest =
    let zeros : List ℕ = replicate (width * room - width * length ns) 0 ++ rest in
    let e : 1 + width * length ns ≡ suc (width * length ns) = omega arith in
    rw (e, append_assoc) (drop_at (flat ns) zeros (width * length ns) (length_flat ns))

-- the other rows are unused
pub unused_area : (ns : List Notice) (rest : List ℕ) → length ns ≤ room
    → unused_of (area_of ns ++ rest) ≡ replicate (room - length ns) unused_row
unused_area ns rest h =
    let z : width * room - width * length ns ≡ width * (room - length ns) = omega arith in
    rw (count_area ns rest, past_rows ns rest, z) (cut_zeros (room - length ns) rest)

-- the area of some notices put together from its parts
pub area_parts : (ns : List Notice) (rest : List ℕ) (v : ℕ) → v ≡ length ns
    → v ∷ (flat ns ++ (replicate (width * room - width * v) 0 ++ rest)) ≡ area_of ns ++ rest
unfolding area_of
area_parts ns rest v e = rw (e, append_assoc)

-- one row more, from a place on
pub cut_more : (m at : ℕ) (xs : List ℕ) → cut (suc m) (drop at xs) ≡ row_of xs at ∷ cut m (drop (at + width) xs)
unfolding cut
cut_more m at xs = rw (row_at_lem, drop-drop)

-- as many notices stand as the area's first number says
pub count_rows : (area : List ℕ) → length (rows_of area) ≡ count_in area
unfolding rows_of
count_rows area = length_cut (count_in area) (drop 1 area)

-- an area is its count, the rows that stand, the other rows, and what lies behind
pub parts : (area : List ℕ) → notices_length ≤ length area → count_in area ≤ room
    → area ≡ count_in area ∷ (flat (rows_of area) ++ (flat (unused_of area) ++ drop notices_length area))
unfolding rows_of
parts area l h =
    let k = count_in area in
    let e : 1 + width * k + width * (room - k) ≡ notices_length = omega arith in
    let rest : drop (1 + width * k) area ≡ flat (unused_of area) ++ drop notices_length area =
    flat_cut (room - k) (drop (1 + width * k) area) (rw length-drop (omega arith))
    ∙ rw (drop-drop (width * (room - k)) (1 + width * k) area, e) in
    drop-cons area 0 0 (omega arith)
    ∙ ap (λ (y : List ℕ). k ∷ y)
    (flat_cut k (drop 1 area) (rw length-drop (omega arith))
    ∙ ap (λ (y : List ℕ). flat (cut k (drop 1 area)) ++ y) (drop-drop (width * k) 1 area ∙ rest))

-- where notices stand: there is room for them, and the other rows are zeros
module _ (C : ℕ) (area : List ℕ) (s : Standing C area) where
  pub standing_fits : count_in area ≤ room
  standing_fits = rw (← (count_rows area)) s.rows.fits

  pub standing_past : drop (1 + width * count_in area) area ≡ replicate (width * room - width * count_in area) 0 ++ drop notices_length area
  standing_past = rw (count_rows area, ← s.noted) at (past_rows (rows_of area) (drop notices_length area))

-- the rows of a long enough area are those of its front
module _ (xs rest : List ℕ) (long : notices_length ≤ length xs) (fits : count_in xs ≤ room) where
  pub rows_append : rows_of (xs ++ rest) ≡ rows_of xs
  unfolding rows_of
  rows_append =
      rw (get_or-append xs rest 0 0 (omega arith), drop-append-le 1 xs rest (omega arith))
      (cut_append (count_in xs) (drop 1 xs) rest (rw length-drop (omega arith)))

  pub unused_append : unused_of (xs ++ rest) ≡ unused_of xs
  unused_append =
      rw (get_or-append xs rest 0 0 (omega arith), drop-append-le (1 + width * count_in xs) xs rest (omega arith))
      (cut_append (room - count_in xs) (drop (1 + width * count_in xs) xs) rest (rw length-drop (omega arith)))

-- the area without a notice is all zeros
pub area_none : area_of [] ≡ replicate notices_length 0
unfolding area_of flat
area_none = refl

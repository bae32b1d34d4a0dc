-- A number looked for row by row: what is left to look through gives what the whole gave; and what the row found tells.
-- Assumes nothing.
use Rattle.std.proofs.Common.{◌≡◌, ℕ, zero, suc, ◌+◌, ◌-◌, ◌*◌, ◌<◌, ◌≤◌, Bool, true, false, cond, not, eqb, ltb, List, [], ◌∷◌, length, drop, sym, refl, ◌∙◌, ⊎_elim, zero-add, arith, le-ltb, lt-ltb, eq-eqb, ne_eqb, eqb-true, is_some, Option, Some, None}
use native.Mathlib.Nat.{sub-zero}
use Rattle.model.specs.Notices.{width, cut, count_in, rows_of, some, stands, stands_elsewhere, Ascending}
use Rattle.model.specs.declared.Notice.{Notice}
use Rattle.model.proofs.ByCases.{by_lt, by_bool}
use Rattle.model.proofs.Areas.{row_of, cut_more, count_rows}
use Rattle.model.proofs.Entering.{stands_below, elsewhere_none}
use Rattle.notices.specs.Numbered.{row_with, RowFound}
use Rattle.notices.proofs.NextRow.{one_less, next_row}

-- looking through m rows from the place on
abbrev pub to_find : List ℕ → ℕ → ℕ → ℕ → ℕ
to_find area at m number = row_with number (cut m (drop at area))

pub find_start : (area : List ℕ) (number : ℕ) → 0 + to_find area (1 + width * 0) (count_in area - 0) number ≡ row_with number (rows_of area)
unfolding rows_of
find_start area number = rw (zero-add, sub-zero)

module _ {x : ℕ} (area : List ℕ) (count k number : ℕ) (h : k < count) (i : k + to_find area (1 + width * k) (count - k) number ≡ x) where
  abbrev here : ℕ
  here = (row_of area (1 + width * k)).number

  find_row : to_find area (1 + width * k) (count - k) number
      ≡ cond (eqb here number) 0 (suc (to_find area (1 + width * (k + 1)) (count - (k + 1)) number))
  unfolding row_with
  find_row = rw (one_less count k h, next_row k, cut_more)

  pub find_here : here ≡ number → k ≡ x
  find_here e = let f : to_find area (1 + width * k) (count - k) number ≡ 0 = find_row ∙ rw (eq-eqb _ _ e) in omega arith

  pub find_on : (here ≡ number → ⊥) → k + 1 + to_find area (1 + width * (k + 1)) (count - (k + 1)) number ≡ x
  find_on e =
      let f : to_find area (1 + width * k) (count - k) number ≡ suc (to_find area (1 + width * (k + 1)) (count - (k + 1)) number) = find_row ∙ rw (ne_eqb _ _ e) in
      omega arith

pub find_end : {x : ℕ} (area : List ℕ) (count k number : ℕ) → k ≡ count → k + to_find area (1 + width * k) (count - k) number ≡ x → count ≡ x
unfolding cut row_with
find_end area count k number e i =
    let z : count - k ≡ 0 = omega arith in
    let f : to_find area (1 + width * k) (count - k) number ≡ 0 = rw z in
    omega arith

-- a number stands exactly if a row has it
stands_by : (m : ℕ) (ns : List Notice) → (row_with m ns < length ns → stands m ns ≡ true) × (length ns ≤ row_with m ns → stands m ns ≡ false)
unfolding stands some row_with
stands_by m [] = (λ h. absurd (omega arith), λ h. refl)
stands_by m (n ∷ ns) =
    ⊎_elim
    (λ (e : eqb n.number m ≡ true). rw e (λ h. refl, λ h. absurd (omega arith)))
    (λ (e : eqb n.number m ≡ false). rw e (λ h. (stands_by m ns).0 (omega arith), λ h. (stands_by m ns).1 (omega arith)))
    (by_bool (eqb n.number m))

pub stands_row : (m : ℕ) (ns : List Notice) → stands m ns ≡ ltb (row_with m ns) (length ns)
stands_row m ns =
    ⊎_elim
    (λ h. (stands_by m ns).0 h ∙ sym (lt-ltb _ _ h))
    (λ h. (stands_by m ns).1 h ∙ sym (le-ltb _ _ h))
    (by_lt (row_with m ns) (length ns))

-- the first of ascending rows has the number: it stands elsewhere exactly if that row has another connection
elsewhere_first : (C m c : ℕ) (n : Notice) (ns : List Notice) → eqb n.number m ≡ true → Ascending C n.number ns
    → stands_elsewhere m c (n ∷ ns) ≡ not (eqb n.connection c)
unfolding stands_elsewhere some
elsewhere_first C m c n ns e a =
    let q : n.number ≡ m = eqb-true _ _ e in
    rw (e, elsewhere_none m c ns (stands_below C n.number m ns (omega arith) a)) (as_is (not (eqb n.connection c)))
  where
    as_is : (b : Bool) → cond b true false ≡ b
    as_is true = refl
    as_is false = refl

-- a number stands elsewhere exactly if the row that has it has another connection
pub elsewhere_row : (C before m c at count : ℕ) (area : List ℕ) → Ascending C before (cut count (drop at area))
    → to_find area at count m < count
    → stands_elsewhere m c (cut count (drop at area)) ≡ not (eqb (row_of area (at + width * to_find area at count m)).connection c)
unfolding row_with stands_elsewhere some
elsewhere_row C before m c at zero area a h = absurd (omega arith)
elsewhere_row C before m c at (suc count) area a h =
    let n = row_of area at in
    let ns = cut count (drop (at + width) area) in
    let up : Ascending C before (n ∷ ns) = rw (cut_more count at area) at a in
    let k : row_with m (n ∷ ns) < suc count = rw (cut_more count at area) at h in
    rw (cut_more count at area)
    (⊎_elim
    (λ (e : eqb n.number m ≡ true).
    let z : at + width * 0 ≡ at = omega arith in
    elsewhere_first C m c n ns e up.2 ∙ rw (e, z))
    (λ (e : eqb n.number m ≡ false).
    let l : suc (row_with m ns) < suc count = rw e at k in
    let z : at + width * suc (row_with m ns) ≡ at + width + width * row_with m ns = omega arith in
    rw (e, z) (elsewhere_row C n.number m c (at + width) count area up.2 (omega arith)))
    (by_bool (eqb n.number m)))

-- and exactly if one is found
pub stands_found : (m : ℕ) (area : List ℕ) (found : Option ℕ) → RowFound area m found → is_some found ≡ stands m (rows_of area)
stands_found m area None e =
    sym (stands_row m (rows_of area) ∙ le-ltb (row_with m (rows_of area)) (length (rows_of area)) (omega (arith, count_rows area, e)))
stands_found m area (Some k) h =
    sym (stands_row m (rows_of area) ∙ lt-ltb (row_with m (rows_of area)) (length (rows_of area)) (omega (arith, count_rows area, h.0, h.1)))

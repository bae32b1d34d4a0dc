-- Two lists compared number by number, and a list read. Assumes nothing.
use Rattle.std.proofs.Common.{◌≡◌, ℕ, zero, suc, ◌+◌, ◌<◌, Bool, true, false, eqb, List, [], ◌∷◌, length, get_or, drop, refl, le_of_suc-le-suc, add-one, arith, drop-cons, eq-eqb, ne_eqb, eqb-true}
use lib.Seq.{drop-length}
use Rattle.model.specs.Drawn.{same}
use Rattle.model.proofs.ByCases.{and_left, and_right}

pub same_refl : (xs : List ℕ) → same xs xs ≡ true
unfolding same
same_refl [] = refl
same_refl (x ∷ xs) = rw (eq-eqb x x refl, same_refl xs)

pub same_eq : (xs ys : List ℕ) → same xs ys ≡ true → xs ≡ ys
unfolding same
same_eq [] [] h = refl
same_eq [] (y ∷ ys) h = cc
same_eq (x ∷ xs) [] h = cc
same_eq (x ∷ xs) (y ∷ ys) h =
    rw (eqb-true x y (and_left (eqb x y) (same xs ys) h), same_eq xs ys (and_right (eqb x y) (same xs ys) h))

-- compared from a place on
module _ {r : Bool} (xs ys : List ℕ) (i : ℕ) (h : i < length xs) (l : length xs ≡ length ys)
    (e : same (drop i xs) (drop i ys) ≡ r) where
  -- the numbers there are equal
  pub same_on : get_or xs i 0 ≡ get_or ys i 0 → same (drop (i + 1) xs) (drop (i + 1) ys) ≡ r
  unfolding same
  same_on q =
      let k : i < length ys = omega arith in
      let f = rw (drop-cons xs i 0 h, drop-cons ys i 0 k, eq-eqb (get_or xs i 0) (get_or ys i 0) q) at e in
      rw add-one f

  -- they differ
  pub same_not : (get_or xs i 0 ≡ get_or ys i 0 → ⊥) → false ≡ r
  unfolding same
  same_not q =
      let k : i < length ys = omega arith in
      rw (drop-cons xs i 0 h, drop-cons ys i 0 k, ne_eqb (get_or xs i 0) (get_or ys i 0) q) at e

-- nothing is left
pub same_end : (xs ys : List ℕ) (i : ℕ) → i ≡ length xs → length xs ≡ length ys → same (drop i xs) (drop i ys) ≡ true
unfolding same
same_end xs ys i e l =
    let f : i ≡ length ys = omega arith in
    let p : drop i xs ≡ [] = rw e (drop-length xs) in
    let q : drop i ys ≡ [] = rw f (drop-length ys) in
    rw (p, q)

-- within a list it does not matter what stands for its outside
pub inside : (l : List ℕ) (i d e : ℕ) → i < length l → get_or l i d ≡ get_or l i e
inside [] i d e h = absurd (omega arith)
inside (x ∷ l) zero d e h = refl
inside (x ∷ l) (suc i) d e h = inside l i d e (le_of_suc-le-suc h)

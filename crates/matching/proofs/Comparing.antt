-- Two lists of numbers compared. Assumes nothing.
use Rattle.std.proofs.Common.{◌≡◌, ℕ, Bool, ◌&&◌, eqb, List, [], ◌∷◌, ◌++◌, length, take, refl, ap, take_at}
use Rattle.std.specs.Cmp.Lexicographic.{pointwise}
use Rattle.model.specs.Drawn.{same}

-- by the library
pointwise_same : (xs ys : List ℕ) → pointwise eqb xs ys ≡ same xs ys
unfolding same
pointwise_same [] [] = refl
pointwise_same [] (y ∷ ys) = refl
pointwise_same (x ∷ xs) [] = refl
pointwise_same (x ∷ xs) (y ∷ ys) = ap (λ (b : Bool). eqb x y && b) (pointwise_same xs ys)

-- with the front of a list that is filled with n numbers
pub front_same : (xs front rest ys : List ℕ) (n : ℕ) → length ys ≡ n → front ≡ ys → pointwise eqb xs (take n (front ++ rest)) ≡ same xs ys
front_same xs front rest ys n l e = rw (e, take_at ys rest n l) (pointwise_same xs ys)

-- Parts put into one list, one after the other. Assumes nothing.
use Rattle.std.proofs.Common.{◌≡◌, ℕ, ◌+◌, ◌≤◌, List, ◌++◌, length, take, drop, sym, ◌∙◌, append_assoc, arith, length-append, length-take-le, take-take, take_at, drop_at}
use borrow.Rule.Slice.PartMut.{Post-is}
use lib.Seq.{take-append-le}
use Rattle.drawing.specs.Spliced.{spliced}
use Rattle.drawing.proofs.Lent.{put_part}

-- p stands before n, and the rest is as it was in d
splice_more : (d p xs ys : List ℕ) (n e : ℕ) → length p ≡ n → n ≤ e → xs ≡ p ++ drop n d → spliced xs n e ys ≡ p ++ ys ++ drop e d
splice_more d p xs ys n e l h q =
    sym (put_part xs ys n e h) ∙ rw (q, take_at p (drop n d) n l, drop_at p (drop n d) n l, Post-is n e d h, append_assoc)

-- three parts in a row, of which the first is put in last
pub three : (d : List ℕ) {x y z : List ℕ} (a b c : List ℕ) (i j k : ℕ)
    → i + length a ≡ j → j + length b ≡ k → k ≤ length d
    → x ≡ spliced d j k b → y ≡ spliced x k (k + length c) c → z ≡ spliced y i j a
    → z ≡ take i d ++ (a ++ b ++ c) ++ drop (k + length c) d
three d {x} {y} a b c i j k la lb room p q r =
    let front : length (take j d) ≡ j = length-take-le j d (omega arith) in
    let rest : List ℕ = b ++ (c ++ drop (k + length c) d) in
    let y-is : y ≡ take j d ++ rest =
    q ∙ splice_more d (take j d ++ b) x c k (k + length c) (simp length-append (omega arith)) (omega arith) p ∙ simp append_assoc in
    let first : i ≤ length (take j d) = omega arith in
    let within : i ≤ j = omega arith in
    r ∙ rw (y-is, take-append-le i (take j d) rest first, take-take i j d within, drop_at (take j d) rest j front) (simp append_assoc)

-- p stands at the front of a list
module _ (p d xs : List ℕ) (n : ℕ) (l : length p ≡ n) (q : xs ≡ p ++ drop n d) where
  pub front_taken : take n xs ≡ p
  front_taken = rw q (take_at p (drop n d) n l)

  -- what stands further on stands there in d
  pub rest_is : (e : ℕ) → n ≤ e → drop e xs ≡ drop e d
  rest_is e h = sym (Post-is n e xs h) ∙ rw (q, drop_at p (drop n d) n l) (Post-is n e d h)

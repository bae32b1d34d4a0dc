-- A part that is lent to a filler. Assumes nothing.
use Rattle.std.proofs.Common.{◌≡◌, ℕ, ◌-◌, ◌≤◌, List, append_assoc}
use borrow.Rule.Slice.PartMut.{put_mid, Post-is}
use Rattle.drawing.specs.Spliced.{spliced}

-- a part that was lent and came back
pub put_part : (xs ys : List ℕ) (a e : ℕ) → a ≤ e → put_mid a (e - a) xs ys ≡ spliced xs a e ys
put_part xs ys a e h = rw (Post-is a e xs h, append_assoc)

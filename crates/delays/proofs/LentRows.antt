-- The rows that stand, lent as a part of their area. Assumes nothing.
use Rattle.std.proofs.Common.{◌≡◌, ℕ, ◌+◌, ◌-◌, ◌*◌, ◌/◌, List, length, drop, arith, length-drop}
use borrow.Rule.Slice.PartMut.{mid_of, mid_len}
use Rattle.model.specs.Notices.{width, count_in, rows_of}
use Rattle.model.proofs.Areas.{cut_take}
use Rattle.notices.specs.Area.{CountFits}
use Rattle.delays.specs.Delays.{rows_in}

-- the part of an area from 1 to 1 + width * count
pub rows_standing : (area : List ℕ) → CountFits area → rows_in (mid_of 1 (1 + width * count_in area - 1) area) ≡ rows_of area
unfolding rows_of
rows_standing area s =
    let l = s.long in
    let h = s.fits in
    let e : 1 + width * count_in area - 1 ≡ width * count_in area = omega arith in
    let n : length (mid_of 1 (1 + width * count_in area - 1) area) / width ≡ count_in area =
    rw (mid_len 1 (1 + width * count_in area) area (omega arith)) (omega arith) in
    rw (n, e) (cut_take (count_in area) (drop 1 area) (rw length-drop (omega arith)))

-- A text copied into an area, and a line at the front of an area. Assumes nothing.
use Rattle.std.proofs.Common.{◌≡◌, ℕ, ◌+◌, ◌≤◌, List, ◌++◌, length, drop, refl, ap, ◌∙◌, zero-add, arith, length-append}
use lib.Seq.{sets, sets-eq}
use borrow.Rule.Slice.PartMut.{put_mid}
use Rattle.std.proofs.lemmas.Grind.{common_steps}
use Rattle.decimals.specs.Written.{Written}
use Rattle.labels.specs.Room.{LineIs}

-- a text copied to its place in an area
pub text_copied : (d text copy : List ℕ) (at k : ℕ) → copy ≡ text → k ≡ length text → at + k ≤ length d
    → Written (at + length text) (put_mid at k d copy) d at text
text_copied d text copy at k e f h = record {
  next = refl;
  stands = let s = sets-eq text d at (omega arith) in grind (arith, common_steps);
}

-- a text from the front of an area on
pub sets_front : (d s : List ℕ) → length s ≤ length d → sets d 0 s ≡ s ++ drop (length s) d
sets_front d s h = sets-eq s d 0 (omega arith) ∙ rw zero-add

-- a line written from the front on
pub line_written : {d line : List ℕ} {a : ℕ} {e : List ℕ} → Written a e d 0 line → length line ≤ length d → LineIs a e d line
line_written {d} {line} {a} {e} h fits =
    let front : e ≡ line ++ drop (length line) d = h.stands ∙ sets_front d line fits in
    record { size = omega (arith, h.next); stands = front; within = omega (arith, h.next, simp length-append at (ap length front)) }

-- The line of a margin, by the sign. Assumes nothing.
use Rattle.std.proofs.Common.{◌≡◌, true, false, refl, arith, to_z-of_z, w32, SFits, to_z, of_z, ltb-true}
use lib.IntN.{ℤ, pos, negsuc, nat_abs}
use lib.Signed.{lt_z}
use Rattle.labels.specs.Labels.{number_line}
use Rattle.lines.specs.Lines.{margin_label, minus_label, margin_line}

line_minus : (z : ℤ) → lt_z z (pos 0) ≡ true → number_line minus_label (nat_abs z) ≡ margin_line z
unfolding margin_line
line_minus (pos n) h = absurd (omega (arith, ltb-true n 0 h))
line_minus (negsuc n) h = refl

line_plus : (z : ℤ) → lt_z z (pos 0) ≡ false → number_line margin_label (nat_abs z) ≡ margin_line z
unfolding margin_line
line_plus (pos n) h = refl
line_plus (negsuc n) h = cc

module _ (z : ℤ) (fits : SFits w32 z) where
  -- the line of a margin below 0
  pub margin_minus : lt_z (to_z w32 (of_z w32 z)) (pos 0) ≡ true
      → number_line minus_label (nat_abs (to_z w32 (of_z w32 z))) ≡ margin_line z
  margin_minus h = rw (to_z-of_z fits) (line_minus z (rw (to_z-of_z fits) at h))

  -- the line of a margin that is not below 0
  pub margin_plus : lt_z (to_z w32 (of_z w32 z)) (pos 0) ≡ false
      → number_line margin_label (nat_abs (to_z w32 (of_z w32 z))) ≡ margin_line z
  margin_plus h = rw (to_z-of_z fits) (line_plus z (rw (to_z-of_z fits) at h))

-- Signed differences of small naturals: they fit, and the casts on the way change nothing. Assumes nothing.
use Rattle.std.proofs.Common.{◌≡◌, ℕ, zero, suc, ◌+◌, ◌-◌, ◌^◌, ◌<◌, ◌≤◌, Bool, true, false, cond, ltb, ◌∙◌, arith, to_z-of_z, w32, SFits, to_z, of_z}
use lib.IntN.{ℤ, pos, negsuc, ◌-ℤ◌}
use lib.Signed.{mag}
use mir.Facts.{to_z_pos}

mag_cond : (t : Bool) (x y k : ℕ) → x ≤ k → y ≤ k → mag (cond t (negsuc x) (pos y)) ≤ k
mag_cond true x y k hx hy = hx
mag_cond false x y k hx hy = hy

-- a difference is no larger than the sum of the sizes
pub mag_sub : (z : ℤ) (n : ℕ) → mag (z -ℤ pos n) ≤ mag z + n
mag_sub (pos a) zero = omega arith
mag_sub (pos a) (suc n) = mag_cond (ltb a (suc n)) (suc n - suc a) (a - suc n) (a + suc n) (omega arith) (omega arith)
mag_sub (negsuc a) zero = mag_cond (ltb 0 (suc a)) (suc a - 1) (0 - suc a) (a + 0) (omega arith) (omega arith)
mag_sub (negsuc a) (suc n) = omega arith

-- three numbers of 16 bits, subtracted at 32
module _ (a b g : ℕ) (ha : a < 2 ^ 16) (hb : b < 2 ^ 16) (hg : g < 2 ^ 16) where
  pub diff : to_z w32 a -ℤ to_z w32 b ≡ pos a -ℤ pos b
  diff = rw (to_z_pos w32 {n = a} (omega arith), to_z_pos w32 {n = b} (omega arith))

  pub diff_fits : SFits w32 (to_z w32 a -ℤ to_z w32 b)
  diff_fits = rw diff (record { sfits = omega (arith, mag_sub (pos a) b) })

  pub diff2 : to_z w32 (of_z w32 (to_z w32 a -ℤ to_z w32 b)) -ℤ to_z w32 g ≡ pos a -ℤ pos b -ℤ pos g
  diff2 = rw (to_z-of_z {w = w32} diff_fits, to_z_pos w32 {n = g} (omega arith), diff)

  pub diff2_fits : SFits w32 (to_z w32 (of_z w32 (to_z w32 a -ℤ to_z w32 b)) -ℤ to_z w32 g)
  diff2_fits = rw diff2 (record { sfits = omega (arith, mag_sub (pos a -ℤ pos b) g, mag_sub (pos a) b) })

  pub diff2_is : to_z w32 (of_z w32 (to_z w32 (of_z w32 (to_z w32 a -ℤ to_z w32 b)) -ℤ to_z w32 g)) ≡ pos a -ℤ pos b -ℤ pos g
  diff2_is = to_z-of_z {w = w32} diff2_fits ∙ diff2

-- a number of 32 bits is read back as it was written
pub read_back : (z : ℤ) → mag z < 2 ^ 31 → to_z w32 (of_z w32 z) ≡ z
read_back z h = to_z-of_z {w = w32} (record { sfits = h })

-- From one row to the next. Assumes nothing.
use Rattle.std.proofs.Common.{◌≡◌, ℕ, suc, ◌+◌, ◌-◌, ◌*◌, ◌<◌, arith}
use Rattle.model.specs.Notices.{width}

-- one row fewer is left
pub one_less : (count k : ℕ) → k < count → count - k ≡ suc (count - (k + 1))
one_less count k h = omega arith

-- one row further on
pub next_row : (k : ℕ) → 1 + width * (k + 1) ≡ 1 + width * k + width
next_row k = omega arith

-- The margin of a change. Assumes nothing.
use Rattle.std.specs.Prelude.{ℤ, pos, neg_ℤ, ◌-ℤ◌, ◌≤ℤ◌, ℕ}
use Rattle.model.specs.Network.{Network}
use Rattle.model.specs.Graph.{board}

-- departure minus arrival minus transfer time, exact and signed
abbrev pub margin_between : ℕ → ℕ → ℕ → ℤ
margin_between departure arrival transfer = pos departure -ℤ pos arrival -ℤ pos transfer

-- the margin of a change from c to d
unfoldable pub margin_of : Network → ℕ → ℕ → ℤ
margin_of net c d = margin_between (net.departure d) (net.arrival c) (net.transfer_time c (board net d))

-- the smallest and the largest margin
abbrev pub least_margin : ℤ
least_margin = neg_ℤ (pos 5819)

abbrev pub most_margin : ℤ
most_margin = pos 5757

pub record MarginRange (z : ℤ) : Type 0 where
  pub least : least_margin ≤ℤ z
  pub most : z ≤ℤ most_margin

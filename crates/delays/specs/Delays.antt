-- The rows in a list of numbers, a primary delay in one number, and the walk over rows. Assumes nothing.
use Rattle.std.specs.Prelude.{◌≡◌, List, [], ◌∷◌, ℕ, ◌/◌, ◌%◌, ◌<◌, length, get_or, replicate}
use Rattle.model.specs.declared.PrimaryDelay.{PrimaryDelay}
use Rattle.model.specs.Notices.{width, cut}
use Rattle.model.specs.declared.Notice.{Notice}
use Rattle.model.specs.Times.{with_notice, primary_delay}

-- all rows of a list of numbers
abbrev pub rows_in : List ℕ → List Notice
rows_in xs = cut (length xs / width) xs

-- how many values a number of 16 bits has
abbrev pub number_size : ℕ
number_size = 65536

-- the primary delay that a number holds
abbrev pub primary_in : ℕ → PrimaryDelay
primary_in x = record { delay = x % number_size; notice = x / number_size }

-- connection c's primary delay, which is p before these rows, after them
unfoldable pub primary_after : ℕ → List Notice → PrimaryDelay → PrimaryDelay
primary_after c [] p = p
primary_after c (n ∷ ns) p = primary_after c ns (with_notice c n p)

-- no connection has a delay
abbrev pub NoDelays : List ℕ → Type 0
NoDelays primaries = primaries ≡ replicate (length primaries) 0

-- the primary delays of n connections by these notices
pub record Tells (ns : List Notice) (primaries : List ℕ) (n : ℕ) : Type 0 where
  pub room : length primaries ≡ n
  pub tells : (c : ℕ) → c < n → primary_in (get_or primaries c 0) ≡ primary_delay c ns

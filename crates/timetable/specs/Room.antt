-- Where a file has room for what a reader reads. Assumes nothing.
use Rattle.std.specs.Prelude.{List, ◌≡◌, ℕ, suc, ◌+◌, ◌*◌, ◌<◌, ◌≤◌, length}
use Rattle.timetable.specs.File.{header_length, place_after, stops}

-- the file holds the minimum transfer time of stop s
abbrev pub HasStop : List ℕ → ℕ → Type 0
HasStop f s = header_length + 2 * s + 1 < length f

-- the file has s stops
abbrev pub HasCount : List ℕ → ℕ → Type 0
HasCount f s = s ≡ stops f

-- a file of s stops holds connection c
abbrev pub HoldsConnection : List ℕ → ℕ → ℕ → Type 0
HoldsConnection f s c = place_after s (suc c) ≤ length f

-- and each of n connections
abbrev pub HoldsEach : List ℕ → ℕ → ℕ → Type 0
HoldsEach f s n = (c : ℕ) → c < n → HoldsConnection f s c

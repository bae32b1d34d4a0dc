-- What the writers of lines need and what they leave in the area that is lent to them. Assumes nothing.
use Rattle.std.specs.Prelude.{◌≡◌, List, ◌++◌, ℕ, ◌≤◌, length, drop}

-- how many bytes a line without a journey needs at most
abbrev pub line_room : ℕ
line_room = 64

-- a line stands at the front of an area, the rest is as before, and the answer is the line's length, which the area has
pub record LineIs (answer : ℕ) (after before line : List ℕ) : Type 0 where
  pub size : answer ≡ length line
  pub stands : after ≡ line ++ drop (length line) before
  pub within : answer ≤ length after

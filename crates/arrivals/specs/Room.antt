-- What the line of an arrival needs in the area that is lent for it. Assumes nothing.
use Rattle.std.specs.Prelude.{ℕ, ◌+◌, ◌*◌}

-- how many bytes the line of an empty journey needs at most
abbrev pub empty_journey_room : ℕ
empty_journey_room = 17

-- how many bytes a connection of a journey needs at most: a space and five digits
abbrev pub connection_room : ℕ
connection_room = 6

-- how many bytes the line of a journey of n connections needs at most
abbrev pub arrival_room : ℕ → ℕ
arrival_room n = empty_journey_room + connection_room * n

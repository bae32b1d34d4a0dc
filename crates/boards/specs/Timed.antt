-- A timetable and a graph area whose times stand, and what readers of both ask. Assumes nothing.
use Rattle.std.specs.Prelude.{List, [], ℕ, ◌+◌, ◌*◌, ◌<◌, ◌≤◌, length}
use Rattle.timetable.specs.File.{to}
use Rattle.timetable.specs.Room.{HasStop}
use Rattle.timetable.specs.Accepted.{Opened}
use Rattle.model.specs.Least.{none}
use Rattle.model.specs.Network.{Sound}
use Rattle.model.specs.Graph.{board, ready}
use Rattle.model.specs.Drawn.{graph_length}
use Rattle.model.specs.Shown.{shown}

-- an accepted timetable of s stops and n connections, and a graph area that is long enough and shows sound times
pub record Timed (f : List ℕ) (s n : ℕ) (g : List ℕ) : Type 0 where
  pub opened : Opened f s n
  pub sound : Sound (shown f g)
  pub room : graph_length f ≤ length g

-- the board on which the departure of connection c is listed, whatever the times
abbrev pub board_in : List ℕ → ℕ → ℕ
board_in f c = board (shown f []) c

-- when a passenger who arrives by connection c is ready to leave again
abbrev pub ready_in : List ℕ → List ℕ → ℕ → ℕ
ready_in f g c = ready (shown f g) c (to f c)

-- which a file that holds the connection and a graph area tell
pub record ReadyRoom (f : List ℕ) (g : List ℕ) (c : ℕ) : Type 0 where
  pub stop : HasStop f (to f c)
  pub room : 2 * c + 1 < length g
  pub early : ready_in f g c < none

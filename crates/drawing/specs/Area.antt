-- The graph area with its lists. Assumes nothing.
use Rattle.std.specs.Prelude.{List, ◌++◌, ℕ, drop}
use Rattle.model.specs.Graph.{graph_of}
use Rattle.model.specs.Drawn.{graph_length}
use Rattle.model.specs.Shown.{shown}

-- a graph area with the departure lists of the times that it shows
abbrev pub with_lists : List ℕ → List ℕ → List ℕ
with_lists f g = graph_of (shown f g) ++ drop (graph_length f) g

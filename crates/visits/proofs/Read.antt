-- What the readers of the graph area tell of a connection's arcs. Assumes nothing.
use Rattle.std.proofs.Common.{◌≡◌, ℕ, ◌<◌, List, ap, ◌∙◌, arith}
use Rattle.timetable.specs.File.{connections}
use Rattle.model.specs.Graph.{waiting, transfer, waiting_in, transfer_in}
use Rattle.model.specs.Shown.{shown}
use Rattle.model.proofs.Shown.{waiting_shown, transfer_shown}
use Rattle.graph.specs.declared.Network.{Network}
use Rattle.graph.proofs.Read.{readable}

-- the arcs of a connection
module _ (v : Network) (d : ℕ) (h : d < v.shown.timetable.connections) where
  abbrev f : List ℕ
  f = v.shown.timetable.file.now

  abbrev graph : List ℕ
  graph = v.shown.graph.now

  below : d < connections f
  below = omega (arith, h, v.shown.timetable.opened.connections)

  -- they are the network's
  pub waiting_is : (w : ℕ) → w ≡ waiting_in graph v.shown.timetable.connections d → w ≡ waiting (shown f graph) d
  waiting_is w q = q ∙ ap (λ (n : ℕ). waiting_in graph n d) v.shown.timetable.opened.connections ∙ waiting_shown f graph (readable v) d below

  pub transfer_is : (x : ℕ) → x ≡ transfer_in graph v.shown.timetable.connections d → x ≡ transfer (shown f graph) d
  transfer_is x q = q ∙ ap (λ (n : ℕ). transfer_in graph n d) v.shown.timetable.opened.connections ∙ transfer_shown f graph (readable v) d below

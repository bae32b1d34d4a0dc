-- The graph area put together from its parts. Assumes nothing.
use Rattle.std.proofs.Common.{◌≡◌, ℕ, ◌+◌, ◌*◌, ◌≤◌, List, ◌++◌, length, drop, sym, ap, ◌∙◌, append_assoc, arith}
use Rattle.timetable.specs.File.{stops, connections}
use Rattle.timetable.specs.Accepted.{Opened}
use Rattle.model.specs.Day.{day_of}
use Rattle.model.specs.Least.{tab}
use Rattle.model.specs.Notices.{rows_of}
use Rattle.model.specs.Network.{Network}
use Rattle.model.specs.Graph.{waiting, transfer, first_departure, times, graph_of}
use Rattle.model.specs.Drawn.{graph_length, graph_for}
use Rattle.model.specs.Times.{network_of}
use Rattle.model.specs.Shown.{shown}
use Rattle.model.proofs.Tab.{length_tab}
use Rattle.model.proofs.GraphArea.{length_times}
use Rattle.model.proofs.Shown.{times_in_lem}
use Rattle.drawing.specs.Spliced.{spliced}
use Rattle.drawing.proofs.Splice.{three, rest_is}

module _ (f : List ℕ) (s n : ℕ) (o : Opened f s n) where
  -- the graph area's length by the counts
  length_is : 4 * n + s ≡ graph_length f
  length_is = rw (o.connections, o.stops)

  -- behind the times of an area, the departure lists of what it shows
  pub parts_drawn : (g : List ℕ) {g₁ g₂ g₃ waits transfers heads : List ℕ} → graph_length f ≤ length g
      → transfers ≡ tab (transfer (shown f g)) (connections f) → heads ≡ tab (first_departure (shown f g)) (stops f)
      → waits ≡ tab (waiting (shown f g)) (connections f)
      → g₁ ≡ spliced g (3 * n) (4 * n) transfers → g₂ ≡ spliced g₁ (4 * n) (4 * n + s) heads → g₃ ≡ spliced g₂ (2 * n) (3 * n) waits
      → g₃ ≡ graph_of (shown f g) ++ drop (graph_length f) g
  unfolding graph_of
  parts_drawn g {g₁} {g₂} {g₃} {waits} {transfers} {heads} room t h w p q r =
      let lt : length transfers ≡ n = rw (t, length_tab) (sym o.connections) in
      let lh : length heads ≡ s = rw (h, length_tab) (sym o.stops) in
      let lw : length waits ≡ n = rw (w, length_tab) (sym o.connections) in
      let long : 4 * n + length heads ≡ graph_length f = omega (arith, length_is) in
      three g waits transfers heads (2 * n) (3 * n) (4 * n) (omega arith) (omega arith) (omega arith) p (rw (← lh) at q) r
      ∙ rw (long, times_in_lem f g n (omega arith), w, t, h, o.connections) (simp append_assoc)

  -- over an area to whose front the times were put
  pub drawn_over : (notices graph₀ graph₁ graph : List ℕ) → graph₁ ≡ times (network_of (day_of f) (rows_of notices)) n ++ drop (2 * n) graph₀
      → graph ≡ graph_for (day_of f) (rows_of notices) ++ drop (graph_length f) graph₁
      → graph ≡ graph_for (day_of f) (rows_of notices) ++ drop (graph_length f) graph₀
  drawn_over notices graph₀ graph₁ graph front drawn =
      let net : Network = network_of (day_of f) (rows_of notices) in
      drawn
      ∙ ap (λ (r : List ℕ). graph_for (day_of f) (rows_of notices) ++ r)
      (rest_is (times net n) graph₀ graph₁ (2 * n) (length_times net n) front (graph_length f) (omega (arith, length_is)))

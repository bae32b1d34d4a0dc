-- What readers ask of an accepted timetable and of a graph area whose times stand. Assumes nothing.
use Rattle.std.proofs.Common.{ℕ, ◌+◌, ◌<◌, ◌≤◌, List, arith}
use Rattle.timetable.specs.File.{connections, to}
use Rattle.timetable.specs.Accepted.{Opened}
use Rattle.timetable.specs.Check.{max_transfer_time}
use Rattle.model.specs.Network.{last_expected}
use Rattle.model.specs.Graph.{departure_in}
use Rattle.boards.specs.Timed.{Timed, board_in, ready_in}
use Rattle.boards.specs.declared.Shown.{Shown}

-- one of its connections
module _ {f : List ℕ} {s n : ℕ} (o : Opened f s n) (c : ℕ) (h : c < n) where
  known : c < connections f
  known = omega (arith, o.connections)

  -- its board and the stop that it goes to are below the count
  pub board_below : board_in f c < s
  board_below = omega (arith, o.stops, o.timetable.from_stop_lem c known)

  pub to_below : to f c < s
  to_below = omega (arith, o.stops, o.timetable.to_stop c known)

module _ {f : List ℕ} {s n : ℕ} {g : List ℕ} (t : Timed f s n g) (c : ℕ) (h : c < n) where
  -- a connection departs, and its passenger is ready, before the last minute
  pub departs_early : departure_in g c < last_expected
  departs_early = let k = known t.opened c h in omega (arith, t.sound.forward c k, t.sound.early c k)

  pub ready_early : ready_in f g c ≤ last_expected + max_transfer_time
  ready_early = let k = known t.opened c h in omega (arith, t.sound.early c k, t.sound.transfers c (to f c) k)

-- both as code holds them
pub timed_by : (v : Shown) → Timed v.timetable.file.now v.timetable.stops v.timetable.connections v.graph.now
timed_by v = record { opened = v.timetable.opened; sound = v.sound; room = v.room }

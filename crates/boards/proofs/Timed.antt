-- An area at whose front the expected times stand: what it shows is the network of the notices. Assumes nothing.
use Rattle.std.proofs.Common.{◌≡◌, ℕ, ◌+◌, ◌*◌, ◌<◌, ◌≤◌, List, length, get_or, take, sym, ap, ◌∙◌, arith, get_or-take}
use Rattle.timetable.specs.File.{connections}
use Rattle.timetable.specs.Accepted.{Opened}
use Rattle.model.specs.Day.{day_of, lent}
use Rattle.model.specs.Network.{Network, Sound}
use Rattle.model.specs.Notices.{rows_of, Standing}
use Rattle.model.specs.Times.{network_of}
use Rattle.model.specs.Graph.{times, graph_of}
use Rattle.model.specs.Drawn.{graph_length, graph_for}
use Rattle.model.specs.Shown.{shown}
use Rattle.model.proofs.Times.{network_sound}
use Rattle.model.proofs.GraphArea.{in_times, departure_entry, arrival_entry}
use Rattle.model.proofs.Shown.{graph_shown, sound_shown}
use Rattle.boards.specs.Timed.{Timed}

-- an area at whose front the expected times stand
module _ (f notices g : List ℕ) (s n : ℕ) (o : Opened f s n) {C : ℕ} (k : Standing C notices)
    (front : take (2 * n) g ≡ times (network_of (day_of f) (rows_of notices)) n) where
  abbrev net : Network
  net = network_of (day_of f) (rows_of notices)

  pub sound : Sound net
  sound = network_sound (day_of f) o.timetable (rows_of notices) k.rows

  read : (i : ℕ) → i < 2 * n → get_or g i 0 ≡ get_or (times net n) i 0
  read i h = sym (get_or-take (2 * n) g i 0 h) ∙ ap (λ (l : List ℕ). get_or l i 0) front

  pub departs : (c : ℕ) → c < connections f → get_or g (2 * c) 0 ≡ net.departure c
  unfolding network_of
  departs c h = read (2 * c) (omega (arith, o.connections)) ∙ rw o.connections (sym (in_times net (2 * c) (omega arith)) ∙ departure_entry net c h)

  pub arrives : (c : ℕ) → c < connections f → get_or g (2 * c + 1) 0 ≡ net.arrival c
  unfolding network_of
  arrives c h = read (2 * c + 1) (omega (arith, o.connections)) ∙ rw o.connections (sym (in_times net (2 * c + 1) (omega arith)) ∙ arrival_entry net c h)

  -- the graph of the times shown is that of the network
  pub graph_by_times : graph_of (shown f g) ≡ graph_for (day_of f) (rows_of notices)
  graph_by_times = graph_shown (day_of f) (lent notices g) sound departs arrives

  -- so the lists can be made, and checked
  pub timed : graph_length f ≤ length g → Timed f s n g
  timed room = record { opened = o; sound = sound_shown (day_of f) (lent notices g) sound departs arrives; room = room }

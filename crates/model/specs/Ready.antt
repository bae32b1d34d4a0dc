-- What the layers above rely on once an operation's checks 1 to 11 and 21 to 24 have passed. Assumes nothing.
use Rattle.std.specs.Prelude.{◌≡◌}
use Rattle.timetable.specs.File.{connections}
use Rattle.timetable.specs.Accepted.{Timetable}
use Rattle.model.specs.Notices.{Standing}
use Rattle.model.specs.Day.{Day, Areas}
use Rattle.model.specs.Drawn.{graph_with, standing}

-- an accepted timetable, a notice area that keeps its rules, and the graph area of both
pub record Ready (day : Day) (areas : Areas) : Type 0 where
  pub timetable : Timetable day.file
  pub rows : Standing (connections day.file) areas.notices
  pub drawn : areas.graph ≡ graph_with day (standing areas) areas.graph

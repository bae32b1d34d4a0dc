-- What graph and search know of a day: its connections with expected times (document 01: times in force). Assumes nothing.
use Rattle.std.specs.Prelude.{◌≡◌, Bool, true, false, ℕ, suc, ◌+◌, ◌<◌, ◌≤◌}
use Rattle.timetable.specs.Check.{max_stops, max_connections, max_transfer_time, last_scheduled}
use Rattle.model.specs.Notices.{most_standing}

pub record Network : Type 0 where
  -- how many stops and connections there are; both are numbered from 0
  pub stops : ℕ
  pub connections : ℕ
  pub from : ℕ → ℕ
  pub to : ℕ → ℕ
  pub departure : ℕ → ℕ
  pub arrival : ℕ → ℕ
  -- c is the next connection of the same trip after c - 1
  pub stays_aboard : ℕ → Bool
  -- the minimum transfer time from a connection to the departures of a board
  pub transfer_time : ℕ → ℕ → ℕ

-- the last minute of a time in force
abbrev pub last_expected : ℕ
last_expected = last_scheduled + most_standing

-- what holds of the network of every accepted timetable with any notices
pub record Sound (net : Network) : Type 0 where
  pub few_stops : net.stops ≤ max_stops
  pub few : net.connections ≤ max_connections
  pub from_stop_lem : (c : ℕ) → c < net.connections → net.from c < net.stops
  pub to_stop : (c : ℕ) → c < net.connections → net.to c < net.stops
  pub transfers : (c b : ℕ) → c < net.connections → net.transfer_time c b ≤ max_transfer_time
  pub forward : (c : ℕ) → c < net.connections → net.departure c < net.arrival c
  pub early : (c : ℕ) → c < net.connections → net.arrival c ≤ last_expected
  pub starts : net.stays_aboard 0 ≡ false
  pub joins : (c : ℕ) → suc c < net.connections → net.stays_aboard (suc c) ≡ true → net.from (suc c) ≡ net.to c
  pub keeps : (c : ℕ) → suc c < net.connections → net.stays_aboard (suc c) ≡ true → net.arrival c ≤ net.departure (suc c)

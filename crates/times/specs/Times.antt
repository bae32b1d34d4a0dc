-- What the filler of times relies on. Assumes nothing.
use Rattle.std.specs.Prelude.{◌≡◌, cond, List, ℕ, ◌+◌, ◌<◌, ◌≤◌, max, length, get_or}
use Rattle.timetable.specs.File.{scheduled_departure, stays_aboard}
use Rattle.model.specs.declared.PrimaryDelay.{PrimaryDelay}
use Rattle.model.specs.Notices.{most_standing}
use Rattle.model.specs.Network.{Network, last_expected}
use Rattle.model.specs.Times.{Conditions, travel_time, network_with}
use Rattle.delays.specs.Delays.{primary_in}

-- a primary delay for each of n connections, none longer than a notice's
pub record Delays (primaries : List ℕ) (n : ℕ) : Type 0 where
  pub room : n ≤ length primaries
  pub most : (c : ℕ) → c < n → (primary_in (get_or primaries c 0)).delay ≤ most_standing

-- the conditions of these delays
abbrev pub conditions_in : List ℕ → Conditions
conditions_in primaries = record { primary = λ c. primary_in (get_or primaries c 0) }

-- the network of a timetable with these delays
abbrev pub network_in : List ℕ → List ℕ → Network
network_in f primaries = network_with f (conditions_in primaries)

-- no scheduled or expected time, and no delay, is above this
abbrev pub longest_time : ℕ
longest_time = last_expected

-- when c departs with this primary delay, where the connection before it arrives at this time
abbrev pub departs_at : List ℕ → ℕ → PrimaryDelay → ℕ → ℕ
departs_at f c primary before =
    let own = scheduled_departure f c + primary.delay in
    cond (stays_aboard f c) (max own before) own

-- the times of c so
pub record TimesAt (f : List ℕ) (c : ℕ) (primary : PrimaryDelay) (before departure arrival : ℕ) : Type 0 where
  pub departs : departure ≡ departs_at f c primary before
  pub arrives : arrival ≡ departure + travel_time f c

-- What an accepted file is, in the terms of document 01. Assumes nothing.
use Rattle.std.specs.Prelude.{true, List, ◌⊎◌, ◌≡◌, ℕ, suc, ◌<◌, ◌≤◌, length}
use mathlib.Core.Path.{ap}
use mathlib.Core.Logic.{inl, inr}
use native.Mathlib.Omega.{arith}
use native.Mathlib.Nat.{ℕ_set}
use native.Mathlib.Bridge.{le_prop}
use mathlib.Core.Bool.{Bool-set}
use Rattle.timetable.specs.File.{file_length, marked, stops, connections, transfer_time, trip, from, to, scheduled_departure, scheduled_arrival, stays_aboard}
use Rattle.timetable.specs.File as file
use Rattle.timetable.specs.Check.{format_version, max_stops, max_connections, max_transfer_time, last_scheduled}

-- a timetable: counts and length, then its stops, then its connections
pub record Timetable (f : List ℕ) : Type 0 where
  pub mark : marked f ≡ true
  pub version : file.version f ≡ format_version
  pub some_stops : 1 ≤ stops f
  pub few_stops : stops f ≤ max_stops
  pub few : connections f ≤ max_connections
  pub long : length f ≡ file_length (stops f) (connections f)
  pub transfers : (s : ℕ) → s < stops f → transfer_time f s ≤ max_transfer_time
  pub from_stop_lem : (c : ℕ) → c < connections f → from f c < stops f
  pub to_stop : (c : ℕ) → c < connections f → to f c < stops f
  pub apart : (c : ℕ) → c < connections f → from f c ≡ to f c → ⊥
  pub first_trip : 0 < connections f → trip f 0 ≡ 0
  pub trips : (c : ℕ) → suc c < connections f → (trip f (suc c) ≡ trip f c) ⊎ (trip f (suc c) ≡ suc (trip f c))
  pub forward : (c : ℕ) → c < connections f → scheduled_departure f c < scheduled_arrival f c
  pub within : (c : ℕ) → c < connections f → scheduled_arrival f c ≤ last_scheduled
  pub joins : (c : ℕ) → suc c < connections f → stays_aboard f (suc c) ≡ true → from f (suc c) ≡ to f c
  pub keeps : (c : ℕ) → suc c < connections f → stays_aboard f (suc c) ≡ true → scheduled_arrival f c ≤ scheduled_departure f (suc c)

-- a timetable of s stops and n connections
pub record Opened (f : List ℕ) (s n : ℕ) : Type 0 where
  pub timetable : Timetable f
  pub stops : s ≡ stops f
  pub connections : n ≡ connections f

-- a trip is that of the connection before or one more, not both
pub next_prop : (t u : ℕ) → IsProp ((u ≡ t) ⊎ (u ≡ suc t))
next_prop t u (inl p) (inl q) = ap inl (let one : IsProp (u ≡ t) = hlevel ℕ_set in one p q)
next_prop t u (inl p) (inr q) = absurd (omega arith)
next_prop t u (inr p) (inl q) = absurd (omega arith)
next_prop t u (inr p) (inr q) = ap inr (let one : IsProp (u ≡ suc t) = hlevel ℕ_set in one p q)

pub opened_prop : (f : List ℕ) (s n : ℕ) → IsProp (Opened f s n)
opened_prop f s n = hlevel (next_prop, le_prop, ℕ_set, Bool-set)

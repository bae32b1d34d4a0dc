-- When a file is refused, and with which number and place, in the terms of document 01. Assumes nothing.
use Rattle.std.specs.Prelude.{true, List, ◌⊎◌, ◌≡◌, ℕ, zero, suc, ◌<◌, ◌≤◌, length}
use Rattle.timetable.specs.File.{header_length, file_length, marked, stops, connections, transfer_time, trip, from, to, scheduled_departure, scheduled_arrival, stays_aboard}
use Rattle.timetable.specs.File as file
use Rattle.refusals.specs.RefusalNumber as refusal
use Rattle.timetable.specs.Check.{format_version, max_stops, max_connections, max_transfer_time, last_scheduled}

-- Past1 f to Past6 f: refusals 1 to so many do not hold
pub record Past1 (f : List ℕ) : Type 0 where
  pub header : header_length ≤ length f

pub record Past2 (f : List ℕ) : Type 0 where
  pub before : Past1 f
  pub mark : marked f ≡ true

pub record Past3 (f : List ℕ) : Type 0 where
  pub before : Past2 f
  pub version : file.version f ≡ format_version

-- as many stops as a file may have
pub record StopCount (f : List ℕ) : Type 0 where
  pub some_stops : 1 ≤ stops f
  pub few_stops : stops f ≤ max_stops

pub record Past4 (f : List ℕ) : Type 0 where
  pub before : Past3 f
  pub stop_count_lem : StopCount f

pub record Past5 (f : List ℕ) : Type 0 where
  pub before : Past4 f
  pub few : connections f ≤ max_connections

pub record Past6 (f : List ℕ) : Type 0 where
  pub before : Past5 f
  pub long : length f ≡ file_length (stops f) (connections f)

-- stop s passes
abbrev pub StopPasses : List ℕ → ℕ → Type 0
StopPasses f s = transfer_time f s ≤ max_transfer_time

pub record Past7 (f : List ℕ) : Type 0 where
  pub before : Past6 f
  pub transfers : (s : ℕ) → s < stops f → StopPasses f s

-- connection c is between two stops
pub record GoodStops (f : List ℕ) (c : ℕ) : Type 0 where
  pub from_stop_lem : from f c < stops f
  pub to_stop : to f c < stops f
  pub apart : from f c ≡ to f c → ⊥

-- its trip is 0 at first, then that of the connection before or one more
abbrev pub GoodTrip : List ℕ → ℕ → Type 0
GoodTrip f zero = trip f zero ≡ 0
GoodTrip f (suc c) = (trip f (suc c) ≡ trip f c) ⊎ (trip f (suc c) ≡ suc (trip f c))

-- it arrives after it departs and within the timetable
pub record GoodTimes (f : List ℕ) (c : ℕ) : Type 0 where
  pub forward : scheduled_departure f c < scheduled_arrival f c
  pub within : scheduled_arrival f c ≤ last_scheduled

-- it goes on where and not before connection c arrives
pub record GoesOn (f : List ℕ) (c : ℕ) : Type 0 where
  pub joins : from f (suc c) ≡ to f c
  pub keeps : scheduled_arrival f c ≤ scheduled_departure f (suc c)

-- it goes on from the connection before if it has that one's trip
abbrev pub GoodJoin : List ℕ → ℕ → Type 0
GoodJoin f zero = Unit {0}
GoodJoin f (suc c) = stays_aboard f (suc c) ≡ true → GoesOn f c

-- connection c passes
pub record ConnectionPasses (f : List ℕ) (c : ℕ) : Type 0 where
  pub good_stops : GoodStops f c
  pub good_trip : GoodTrip f c
  pub good_times : GoodTimes f c
  pub good_join : GoodJoin f c

-- the check comes to connection c: the header, all stops and the connections before it pass
pub record Reaches (f : List ℕ) (c : ℕ) : Type 0 where
  pub before : Past7 f
  pub below : c < connections f
  pub earlier : (b : ℕ) → b < c → ConnectionPasses f b

-- the refusal of a file: its number and place
pub data FileRefusal (f : List ℕ) : ℕ → ℕ → Type 0 where
  no_header : length f < header_length → FileRefusal f refusal.short_file 0
  wrong_mark_lem : Past1 f → (marked f ≡ true → ⊥) → FileRefusal f refusal.wrong_mark 0
  wrong_version_lem : Past2 f → (file.version f ≡ format_version → ⊥) → FileRefusal f refusal.wrong_version 0
  wrong_stop_count_lem : Past3 f → (StopCount f → ⊥) → FileRefusal f refusal.wrong_stop_count 0
  wrong_connection_count_lem : Past4 f → max_connections < connections f → FileRefusal f refusal.wrong_connection_count 0
  wrong_length_lem : Past5 f → (length f ≡ file_length (stops f) (connections f) → ⊥) → FileRefusal f refusal.wrong_length 0
  wrong_transfer : (s : ℕ) → Past6 f → s < stops f → ((b : ℕ) → b < s → StopPasses f b) → max_transfer_time < transfer_time f s
      → FileRefusal f refusal.wrong_transfer_time s
  wrong_stops_lem : (c : ℕ) → Reaches f c → (GoodStops f c → ⊥) → FileRefusal f refusal.wrong_stops c
  wrong_trip_lem : (c : ℕ) → Reaches f c → GoodStops f c → (GoodTrip f c → ⊥) → FileRefusal f refusal.wrong_trip c
  wrong_times_lem : (c : ℕ) → Reaches f c → GoodStops f c → GoodTrip f c → (GoodTimes f c → ⊥) → FileRefusal f refusal.wrong_times c
  wrong_join_lem : (c : ℕ) → Reaches f c → GoodStops f c → GoodTrip f c → GoodTimes f c → (GoodJoin f c → ⊥) → FileRefusal f refusal.wrong_join c

-- Expected times: how a delay is passed on, that times depend on the delays alone, and that the network of an accepted timetable
-- with notices within their limits is sound. Assumes nothing.
use Rattle.std.proofs.Common.{◌≡◌, ℕ, zero, suc, ◌+◌, ◌<◌, ◌≤◌, max, true, false, ◌↔◌, List, [], refl, ap, ⊎_elim, arith}
use mathlib.Core.List.{Memᴰ}
use Rattle.timetable.specs.File.{connections, to, scheduled_departure, scheduled_arrival, stays_aboard}
use Rattle.timetable.specs.Accepted.{Timetable}
use Rattle.model.specs.Notices.{most_standing, WellFormed}
use Rattle.model.specs.declared.Notice.{Notice}
use Rattle.model.specs.Network.{Sound}
use Rattle.model.specs.Day.{Day}
use Rattle.model.specs.Times.{Conditions, conditions_of, own_departure, travel_time, expected_departure, expected_arrival, network_with, network_of}
use Rattle.model.proofs.ByCases.{by_bool}
use Rattle.model.proofs.Primary.{primary_none, primary_most, primary_same}

-- the first connection is the first of its trip
pub first_starts : (f : List ℕ) → stays_aboard f 0 ≡ false
unfolding stays_aboard
first_starts f = refl

module _ (f : List ℕ) (conditions : Conditions) where
  -- the first connection of a trip leaves at its own departure
  pub departure_own : (c : ℕ) → stays_aboard f c ≡ false → expected_departure f conditions c ≡ own_departure f conditions c
  unfolding expected_departure
  departure_own zero h = refl
  departure_own (suc c) h = rw h

  -- a further one at its own departure or when the one before it arrives, whichever is later
  pub departure_after : (c : ℕ) → stays_aboard f (suc c) ≡ true
      → expected_departure f conditions (suc c) ≡ max (own_departure f conditions (suc c)) (expected_arrival f conditions c)
  unfolding expected_departure expected_arrival
  departure_after c h = rw h

  -- it arrives its scheduled travel time later
  pub travel_kept : (c : ℕ) → expected_arrival f conditions c ≡ expected_departure f conditions c + travel_time f c
  unfolding expected_arrival
  travel_kept c = refl

-- times depend only on the delays of the connections so far
pub departure_same : (f : List ℕ) (conditions conditions' : Conditions) (c : ℕ) → ((e : ℕ) → e < suc c → (conditions.primary e).delay ≡ (conditions'.primary e).delay)
    → expected_departure f conditions c ≡ expected_departure f conditions' c
unfolding expected_departure
departure_same f conditions conditions' zero h = rw (h 0 (omega arith))
departure_same f conditions conditions' (suc c) h = rw (departure_same f conditions conditions' c (λ e l. h e (omega arith)), h (suc c) (omega arith))

pub arrival_same : (f : List ℕ) (conditions conditions' : Conditions) (c : ℕ) → ((e : ℕ) → e < suc c → (conditions.primary e).delay ≡ (conditions'.primary e).delay)
    → expected_arrival f conditions c ≡ expected_arrival f conditions' c
unfolding expected_arrival
arrival_same f conditions conditions' c h = rw (departure_same f conditions conditions' c h)

module _ (f : List ℕ) (table : Timetable f) where
  module _ (conditions : Conditions) where
    -- a connection arrives as much after its scheduled arrival as it leaves after its scheduled departure
    pub arrival_late : (c : ℕ) → c < connections f
        → expected_arrival f conditions c + scheduled_departure f c ≡ expected_departure f conditions c + scheduled_arrival f c
    unfolding expected_arrival
    arrival_late c h = omega (arith, table.forward c h)

    -- where no delay is longer than d, no connection leaves later than its scheduled departure and d
    pub departure_most : (d c : ℕ) → ((e : ℕ) → e < connections f → (conditions.primary e).delay ≤ d) → c < connections f
        → expected_departure f conditions c ≤ scheduled_departure f c + d
    departure_most d zero most h = omega (arith, departure_own f conditions 0 (first_starts f), most 0 h)
    departure_most d (suc c) most h =
        let l : c < connections f = omega arith in
        ⊎_elim
        (λ s. omega (arith, departure_after f conditions c s, most (suc c) h, departure_most d c most l, arrival_late c l, table.keeps c h s))
        (λ s. omega (arith, departure_own f conditions (suc c) s, most (suc c) h))
        (by_bool (stays_aboard f (suc c)))

    -- nor arrives later than its scheduled arrival and d
    pub arrival_most : (d c : ℕ) → ((e : ℕ) → e < connections f → (conditions.primary e).delay ≤ d) → c < connections f
        → expected_arrival f conditions c ≤ scheduled_arrival f c + d
    arrival_most d c most h = omega (arith, departure_most d c most h, arrival_late c h)

    -- a connection never leaves before its scheduled departure
    pub departure_least : (c : ℕ) → scheduled_departure f c ≤ expected_departure f conditions c
    departure_least zero = omega (arith, departure_own f conditions 0 (first_starts f))
    departure_least (suc c) =
        ⊎_elim (λ s. omega (arith, departure_after f conditions c s)) (λ s. omega (arith, departure_own f conditions (suc c) s)) (by_bool (stays_aboard f (suc c)))

    -- the network of an accepted timetable with any delays that may stand
    pub sound_with : ((e : ℕ) → e < connections f → (conditions.primary e).delay ≤ most_standing) → Sound (network_with f conditions)
    sound_with most =
        record {
          few_stops = table.few_stops;
          few = table.few;
          from_stop_lem = table.from_stop_lem;
          to_stop = table.to_stop;
          transfers = λ c b h. table.transfers (to f c) (table.to_stop c h);
          forward = λ c h. omega (arith, table.forward c h, arrival_late c h);
          early = λ c h. omega (arith, table.within c h, arrival_most most_standing c most h);
          starts = first_starts f;
          joins = table.joins;
          keeps = λ c h s. omega (arith, departure_after f conditions c s);
        }

  -- without notices a connection leaves and arrives as scheduled
  pub on_time : (c : ℕ) → c < connections f → expected_departure f (conditions_of []) c ≡ scheduled_departure f c
  on_time c h = omega (arith, departure_least (conditions_of []) c, departure_most (conditions_of []) 0 c (λ e l. rw (primary_none e) (omega arith)) h)

  pub on_time_arrival : (c : ℕ) → c < connections f → expected_arrival f (conditions_of []) c ≡ scheduled_arrival f c
  on_time_arrival c h = omega (arith, on_time c h, arrival_late (conditions_of []) c h)

-- the network of a day whose timetable is accepted, with any notices that may stand together
pub network_sound : (day : Day) → Timetable day.file → (ns : List Notice) → {C : ℕ} → WellFormed C ns → Sound (network_of day ns)
unfolding network_of
network_sound day table ns {C} rows =
    sound_with day.file table (conditions_of ns) (λ c h. primary_most c C 0 ns rows.ascending)

-- the network of a day depends on which notices there are, not on their order
pub network_same : (day : Day) (ns ms : List Notice) → ((n : Notice) → Memᴰ n ns ↔ Memᴰ n ms) → network_of day ns ≡ network_of day ms
unfolding network_of
network_same day ns ms same =
    let e : conditions_of ns ≡ conditions_of ms = λ i. record { primary = λ c. primary_same c ns ms same i } in
    ap (network_with day.file) e

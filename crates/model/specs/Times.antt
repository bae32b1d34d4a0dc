-- Delays and expected times (document 01: times in force), and the network of a day with its notices. Assumes nothing.
use Rattle.std.specs.Prelude.{Bool, cond, ◌&&◌, ◌||◌, List, [], ◌∷◌, ℕ, zero, suc, ◌+◌, ◌-◌, max, ltb, eqb}
use Rattle.timetable.specs.File.{stops, connections, transfer_time, from, to, scheduled_departure, scheduled_arrival, stays_aboard}
use Rattle.model.specs.declared.PrimaryDelay.{PrimaryDelay}
use Rattle.model.specs.declared.Notice.{Notice}
use Rattle.model.specs.Network.{Network}
use Rattle.model.specs.Day.{Day}

-- a primary delay (document 01: own delay) is a delay and the notice that gives it: 0 and 0 without one
abbrev pub no_delay : PrimaryDelay
no_delay = record { delay = 0; notice = 0 }

-- what a notice gives
abbrev pub given_by : Notice → PrimaryDelay
given_by n = record { delay = n.delay; notice = n.number }

-- a delay prevails over a shorter one, and over one as long of a higher notice number
unfoldable pub prevails : PrimaryDelay → PrimaryDelay → Bool
prevails p q = ltb q.delay p.delay || (eqb p.delay q.delay && ltb p.notice q.notice)

-- connection c's primary delay, which is p without this notice
unfoldable pub with_notice : ℕ → Notice → PrimaryDelay → PrimaryDelay
with_notice c n p = cond (eqb n.connection c && prevails (given_by n) p) (given_by n) p

-- the primary delay of a connection: of its notices' delays the one that prevails
unfoldable pub primary_delay : ℕ → List Notice → PrimaryDelay
primary_delay c [] = no_delay
primary_delay c (n ∷ ns) = with_notice c n (primary_delay c ns)

-- the conditions on which expected times depend: each connection's primary delay
pub record Conditions : Type 0 where
  pub primary : ℕ → PrimaryDelay

-- the conditions of the notices that stand
abbrev pub conditions_of : List Notice → Conditions
conditions_of ns = record { primary = λ c. primary_delay c ns }

-- the scheduled departure plus the connection's primary delay
abbrev pub own_departure : List ℕ → Conditions → ℕ → ℕ
own_departure f conditions c = scheduled_departure f c + (conditions.primary c).delay

-- the scheduled travel time
abbrev pub travel_time : List ℕ → ℕ → ℕ
travel_time f c = scheduled_arrival f c - scheduled_departure f c

-- a connection leaves at its own departure, or when the one before it in its trip arrives if that is later
unfoldable pub expected_departure : List ℕ → Conditions → ℕ → ℕ
expected_departure f conditions zero = own_departure f conditions zero
expected_departure f conditions (suc c) =
    let arrival = expected_departure f conditions c + travel_time f c in
    cond (stays_aboard f (suc c)) (max (own_departure f conditions (suc c)) arrival) (own_departure f conditions (suc c))

-- it takes its scheduled travel time
unfoldable pub expected_arrival : List ℕ → Conditions → ℕ → ℕ
expected_arrival f conditions c = expected_departure f conditions c + travel_time f c

-- the network of a timetable under these conditions
abbrev pub network_with : List ℕ → Conditions → Network
network_with f conditions =
    record {
      stops = stops f;
      connections = connections f;
      from = from f;
      to = to f;
      departure = expected_departure f conditions;
      arrival = expected_arrival f conditions;
      stays_aboard = stays_aboard f;
      transfer_time = λ c b. transfer_time f (to f c);
    }

-- the network of a day and the notices that stand
unfoldable pub network_of : Day → List Notice → Network
network_of day ns = network_with day.file (conditions_of ns)

-- The check accepts exactly the files of document 01, and an accepted file has room for what the readers read.
-- Assumes nothing.
use Rattle.std.proofs.Common.{◌≡◌, ℕ, zero, suc, ◌<◌, ◌≤◌, ◌↔◌, List, length, arith}
use Rattle.refusals.specs.Answers.{first_below, Passed}
use Rattle.timetable.specs.File.{header_length, stops, connections}
use Rattle.timetable.specs.Check.{header_verdict, stop_verdict, connection_verdict, file_verdict}
use Rattle.timetable.specs.Room.{HasStop, HoldsConnection}
use Rattle.timetable.specs.Accepted.{Timetable}
use Rattle.timetable.specs.Refusals.{Past6, Past7, GoodTrip, GoodJoin, ConnectionPasses}
use Rattle.timetable.proofs.Order.{else_passed, below_passed}
use Rattle.timetable.proofs.Rules.{rule7, header_passes, header_past, connection_passes, connection_good}

module _ (f : List ℕ) where
  -- what the check has passed by, put together
  timetable : Past7 f → ((c : ℕ) → c < connections f → ConnectionPasses f c) → Timetable f
  timetable s k =
      let h = s.before in
      let g = h.before.before in
      record {
        mark = g.before.before.mark;
        version = g.before.version;
        some_stops = g.stop_count_lem.some_stops;
        few_stops = g.stop_count_lem.few_stops;
        few = h.before.few;
        long = h.long;
        transfers = s.transfers;
        from_stop_lem = λ c l. (k c l).good_stops.from_stop_lem;
        to_stop = λ c l. (k c l).good_stops.to_stop;
        apart = λ c l. (k c l).good_stops.apart;
        first_trip = λ l. (k 0 l).good_trip;
        trips = λ c l. (k (suc c) l).good_trip;
        forward = λ c l. (k c l).good_times.forward;
        within = λ c l. (k c l).good_times.within;
        joins = λ c l a. ((k (suc c) l).good_join a).joins;
        keeps = λ c l a. ((k (suc c) l).good_join a).keeps;
      }

  accepted : file_verdict f ≡ Passed → Timetable f
  unfolding file_verdict
  accepted e =
      let h = (else_passed (header_verdict f) _).0 e in
      let s = (else_passed (first_below (stop_verdict f) (stops f)) _).0 h.1 in
      let k = (else_passed (first_below (connection_verdict f) (connections f)) Passed).0 s.1 in
      timetable
      (record { before = header_past f h.0; transfers = λ i l. (rule7 f i).keeps ((below_passed (stop_verdict f) (stops f)).0 s.0 i l) })
      (λ c l. connection_good f c ((below_passed (connection_verdict f) (connections f)).0 k.0 c l))

  module _ (t : Timetable f) where
    -- and taken apart
    past : Past6 f
    past =
        let l = t.long in
        record {
          before = record {
            before = record {
              before = record { before = record { before = record { header = omega arith }; mark = t.mark }; version = t.version };
              stop_count_lem = record { some_stops = t.some_stops; few_stops = t.few_stops };
            };
            few = t.few;
          };
          long = t.long;
        }

    good_trip : (c : ℕ) → c < connections f → GoodTrip f c
    good_trip zero l = t.first_trip l
    good_trip (suc c) l = t.trips c l

    good_join : (c : ℕ) → c < connections f → GoodJoin f c
    good_join zero l = tt
    good_join (suc c) l = λ a. record { joins = t.joins c l a; keeps = t.keeps c l a }

    -- each connection of a timetable passes
    pub good_connection : (c : ℕ) → c < connections f → ConnectionPasses f c
    good_connection c l =
        record {
          good_stops = record { from_stop_lem = t.from_stop_lem c l; to_stop = t.to_stop c l; apart = t.apart c l };
          good_trip = good_trip c l;
          good_times = record { forward = t.forward c l; within = t.within c l };
          good_join = good_join c l;
        }

    passes : file_verdict f ≡ Passed
    unfolding file_verdict
    passes =
        let s = (below_passed (stop_verdict f) (stops f)).1 (λ i l. (rule7 f i).holds (t.transfers i l)) in
        let k = (below_passed (connection_verdict f) (connections f)).1 (λ c l. connection_passes f c (good_connection c l)) in
        rw (header_passes f past, s, k)

    -- what the readers ask
    pub room_for_header : header_length ≤ length f
    room_for_header = let l = t.long in omega arith

    pub room_for_stop : (s : ℕ) → s < stops f → HasStop f s
    room_for_stop s h = let l = t.long in omega arith

    pub room_for : (c : ℕ) → c < connections f → HoldsConnection f (stops f) c
    room_for c h = let l = t.long in omega arith

  -- the check accepts the timetables of document 01 and no other files
  pub accepted_iff : (file_verdict f ≡ Passed) ↔ Timetable f
  accepted_iff = (accepted, passes)

-- An import is accepted, and refused with a number at a place, exactly as it has to be: 31, then 4, 5, 7, 8, 10 and 11 of its file, whose
-- header, mark, version, length and trips are right by its making. Assumes nothing.
use Rattle.std.proofs.Common.{◌≡◌, ℕ, zero, suc, ◌<◌, ◌≤◌, Bool, not, ◌&&◌, ltb, leb, ◌↔◌, List, length, sym, refl, ◌∙◌, inl, inr, ⊎_elim, arith, eq-eqb, eqb-true, le-leb, leb-true}
use Rattle.refusals.specs.RefusalNumber as refusal
use Rattle.numbers.specs.Numbers.{numbers_of}
use Rattle.refusals.specs.Answers.{refuse_if, Passed, Refused}
use Rattle.timetable.specs.File.{stops, connections, from, to, stays_aboard}
use Rattle.timetable.specs.Check.{stop_verdict, connection_verdict, file_verdict}
use Rattle.timetable.specs.Accepted.{Timetable}
use Rattle.timetable.specs.Refusals.{Past3, Past5, Past6, Past7, GoodStops, GoodTrip, GoodTimes, GoodJoin, StopPasses, ConnectionPasses, Reaches, FileRefusal}
use Rattle.timetable.specs.Refusals as file
use Rattle.timetable.proofs.Tests.{Faults, negated, below, in_words, and_both}
use Rattle.timetable.proofs.Order.{or_passed, else_passed, else_refused, Rule, rule, passes, found, refuses, pass, stop, below_passed}
use Rattle.timetable.proofs.Rules.{rule7, header_passes, connection_passes}
use Rattle.timetable.proofs.Accepted.{accepted_iff, good_connection}
use Rattle.timetable.proofs.Refusals.{refused_iff}
use Rattle.gtfs.specs.Feed.{Connection, rows_of, text_verdict}
use Rattle.gtfs.specs.Conversions.{counts_verdict, text_connections, imported_file, import_verdict}
use Rattle.gtfs.proofs.FileNumbers.{file_stops}
use Rattle.gtfs.proofs.Imports.{text_refused, counts_refused, file_decides}
use Rattle.feed_meanings.specs.Texts.{GoodText}
use Rattle.feed_meanings.specs.Imports.{connection_at, TwoStops, Forward, Keeps, GoodConnection, stop_count, transfer_at, SomeStops, Counted, Stopped, GoodImport, Comes, WrongImport, wrong_text, wrong_stop_count_lem, wrong_connection_count_lem, wrong_transfer, wrong_stops_lem, wrong_times_lem, wrong_join_lem}
use Rattle.feed_meanings.proofs.Words.{both}
use Rattle.feed_meanings.proofs.Texts.{good_iff, wrong_iff}
use Rattle.feed_meanings.proofs.Fields.{file_marked, file_version, file_connections, file_length_lem, file_transfer, file_trip, file_from, file_to, file_departure, file_arrival}
use Rattle.feed_meanings.proofs.Trips.{first_trip, next_trip}

-- the counts
some_stops : (change : List ℕ) → Faults (not (leb 1 (stop_count change) && leb (stop_count change) 500)) (SomeStops change)
some_stops change =
    let n = stop_count change in
    in_words (negated (leb 1 n && leb n 500))
    (λ h. let b = both (leb 1 n) (leb n 500) h in record { some_stops = leb-true 1 n b.0; few_stops = leb-true n 500 b.1 })
    (λ s. and_both (leb 1 n) (leb n 500) (le-leb 1 n s.some_stops) (le-leb n 500 s.few_stops))

module _ (text change : List ℕ) where
  abbrev ts : List ℕ
  ts = numbers_of change

  abbrev cs : List Connection
  cs = text_connections text

  abbrev f : List ℕ
  f = imported_file text change

  -- the counts' verdict
  abbrev stop_test : Bool
  stop_test = not (leb 1 (length ts) && leb (length ts) 500)

  rule4 : Rule (refuse_if stop_test refusal.wrong_stop_count 0) refusal.wrong_stop_count 0 (SomeStops change)
  rule4 = rule stop_test refusal.wrong_stop_count 0 (some_stops change)

  rule5 : Rule (refuse_if (ltb 2000 (length cs)) refusal.wrong_connection_count 0) refusal.wrong_connection_count 0 (length cs ≤ 2000)
  rule5 = rule (ltb 2000 (length cs)) refusal.wrong_connection_count 0 (below 2000 (length cs))

  counts_passed : (counts_verdict (length ts) (length cs) ≡ Passed) ↔ (SomeStops change × (length cs ≤ 2000))
  counts_passed = (
    λ h. let p = passes _ rule4 h in (p.0, rule5.keeps p.1),
    λ h. pass rule4 h.0 (rule5.holds h.1),
  )

  -- the header
  past3 : Past3 f
  past3 =
      record {
        before = record { before = record { header = let l = file_length_lem ts cs in omega arith }; mark = file_marked ts cs };
        version = file_version ts cs;
      }

  module _ (k : Counted text change) where
    past5 : Past5 f
    past5 =
        let s = k.stops in
        record {
          before = record {
            before = past3;
            stop_count_lem = let e = file_stops ts cs in record { some_stops = omega arith; few_stops = omega arith };
          };
          few = let e = file_connections ts cs in let l = k.few in omega arith;
        }

    past6 : Past6 f
    past6 = record { before = past5; long = rw (file_stops ts cs, file_connections ts cs) (file_length_lem ts cs) }

  -- a stop
  stop_iff : (s : ℕ) → s < length ts → StopPasses f s ↔ (transfer_at change s ≤ 60)
  stop_iff s l = let e = file_transfer ts cs s l in (λ h. omega arith, λ h. omega arith)

  -- a connection
  module _ (g : GoodText text (rows_of text)) (c : ℕ) (l : c < length cs) where
    stops_iff : GoodStops f c ↔ TwoStops (length ts) (connection_at cs c)
    stops_iff =
        let n = file_stops ts cs in
        let a = file_from ts cs c l in
        let b = file_to ts cs c l in (
          λ h.
              record {
                from_stop_lem = let i = h.from_stop_lem in omega arith;
                to_stop = let i = h.to_stop in omega arith;
                apart = λ e. h.apart (a ∙ e ∙ sym b);
              },
          λ h.
              record {
                from_stop_lem = let i = h.from_stop_lem in omega arith;
                to_stop = let i = h.to_stop in omega arith;
                apart = λ e. h.apart (sym a ∙ e ∙ b);
              },
        )

    times_iff : GoodTimes f c ↔ Forward (connection_at cs c)
    times_iff =
        let a = file_departure ts cs c l in
        let b = file_arrival ts cs c l in (
          λ h. record { later = let i = h.forward in omega arith; within = let i = h.within in omega arith },
          λ h. record { forward = let i = h.later in omega arith; within = let i = h.within in omega arith },
        )

  trip_good : GoodText text (rows_of text) → (c : ℕ) → c < length cs → GoodTrip f c
  trip_good g zero l = file_trip ts cs 0 l ∙ first_trip g l
  trip_good g (suc c) l =
      let a = file_trip ts cs c (omega arith) in
      let b = file_trip ts cs (suc c) l in
      ⊎_elim (λ e. inl (b ∙ e.0 ∙ sym a)) (λ e. inr (let d = e in omega arith)) (next_trip g c l)

  -- where a connection has the trip of the one before it, it starts where that one goes
  joined : GoodText text (rows_of text) → (c : ℕ) → suc c < length cs → (connection_at cs (suc c)).trip ≡ (connection_at cs c).trip
      → from f (suc c) ≡ to f c
  joined g c l same =
      ⊎_elim
      (λ e. file_from ts cs (suc c) l ∙ e.1 ∙ sym (file_to ts cs c (omega arith)))
      (λ e. absurd (omega arith))
      (next_trip g c l)

  join_iff : GoodText text (rows_of text) → (c : ℕ) → c < length cs → GoodJoin f c ↔ Keeps cs c
  unfolding stays_aboard
  join_iff g zero l = (λ h. tt, λ h. tt)
  join_iff g (suc c) l =
      let a = file_trip ts cs c (omega arith) in
      let b = file_trip ts cs (suc c) l in
      let d = file_departure ts cs (suc c) l in
      let r = file_arrival ts cs c (omega arith) in (
        λ h e. let i = (h (eq-eqb _ _ (b ∙ e ∙ sym a))).keeps in omega arith,
        λ h e.
            let same = sym b ∙ eqb-true _ _ e ∙ a in
            record { joins = joined g c l same; keeps = let i = h same in omega arith },
      )

  passes_iff : GoodText text (rows_of text) → (c : ℕ) → c < length cs → ConnectionPasses f c ↔ GoodConnection (length ts) cs c
  passes_iff g c l = (
    λ h.
        record {
          two_stops = (stops_iff g c l).0 h.good_stops;
          forward = (times_iff g c l).0 h.good_times;
          keeps = (join_iff g c l).0 h.good_join;
        },
    λ h.
        record {
          good_stops = (stops_iff g c l).1 h.two_stops;
          good_trip = trip_good g c l;
          good_times = (times_iff g c l).1 h.forward;
          good_join = (join_iff g c l).1 h.keeps;
        },
  )

  -- the check passes all stops, and comes to connection c
  stopped_iff : Counted text change → Past7 f ↔ Stopped text change
  stopped_iff k =
      let n = file_stops ts cs in (
        λ h. record { counted = k; transfers = λ s l. (stop_iff s l).0 (h.transfers s (omega arith)) },
        λ h. record { before = past6 k; transfers = λ s l. let m : s < length ts = omega arith in (stop_iff s m).1 (h.transfers s m) },
      )

  comes_iff : Counted text change → (c : ℕ) → Reaches f c ↔ Comes text change c
  comes_iff k c =
      let n = file_connections ts cs in
      let g = k.good_text in (
        λ h.
            let l : c < length cs = let b = h.below in omega arith in
            record {
              stopped = (stopped_iff k).0 h.before;
              below = l;
              earlier = λ b m. (passes_iff g b (omega arith)).0 (h.earlier b m);
            },
        λ h.
            let l = h.below in
            record {
              before = (stopped_iff k).1 h.stopped;
              below = omega arith;
              earlier = λ b m. (passes_iff g b (omega arith)).1 (h.earlier b m);
            },
      )

  -- a refusal of the file
  file_wrong : Counted text change → {n p : ℕ} → FileRefusal f n p → WrongImport text change n p
  file_wrong k (file.no_header h) = absurd (let l = file_length_lem ts cs in omega arith)
  file_wrong k (file.wrong_mark_lem h w) = absurd (w (file_marked ts cs))
  file_wrong k (file.wrong_version_lem h w) = absurd (w (file_version ts cs))
  file_wrong k (file.wrong_stop_count_lem h w) = absurd (w (past5 k).before.stop_count_lem)
  file_wrong k (file.wrong_connection_count_lem h w) = absurd (let l = (past5 k).few in omega arith)
  file_wrong k (file.wrong_length_lem h w) = absurd (w (past6 k).long)
  file_wrong k (file.wrong_transfer s h l b w) =
      let n = file_stops ts cs in
      let m : s < length ts = omega arith in
      let e = file_transfer ts cs s m in
      wrong_transfer s k m (λ j i. (stop_iff j (omega arith)).0 (b j i)) (omega arith)
  file_wrong k (file.wrong_stops_lem c r w) =
      let h = (comes_iff k c).0 r in
      wrong_stops_lem c h (λ x. w ((stops_iff k.good_text c h.below).1 x))
  file_wrong k (file.wrong_trip_lem c r a w) = let h = (comes_iff k c).0 r in absurd (w (trip_good k.good_text c h.below))
  file_wrong k (file.wrong_times_lem c r a b w) =
      let h = (comes_iff k c).0 r in
      let g = k.good_text in
      wrong_times_lem c h ((stops_iff g c h.below).0 a) (λ x. w ((times_iff g c h.below).1 x))
  file_wrong k (file.wrong_join_lem c r a b d w) =
      let h = (comes_iff k c).0 r in
      let g = k.good_text in
      wrong_join_lem c h ((stops_iff g c h.below).0 a) ((times_iff g c h.below).0 d) (λ x. w ((join_iff g c h.below).1 x))

  at_file : Counted text change → {n p : ℕ} → FileRefusal f n p → import_verdict text change ≡ Refused n p
  at_file k {n} {p} r =
      file_decides text change ((good_iff text (rows_of text)).1 k.good_text).0 (counts_passed.1 (k.stops, k.few))
      ∙ (refused_iff f n p).1 r

  counts_wrong : GoodText text (rows_of text) → {n p : ℕ} → counts_verdict (length ts) (length cs) ≡ Refused n p → WrongImport text change n p
  counts_wrong g h =
      refuses _ (WrongImport text change) rule4 (wrong_stop_count_lem g)
      (λ s. found (WrongImport text change) rule5 (λ w. wrong_connection_count_lem g s (omega arith)))
      h

  is_wrong : {n p : ℕ} → import_verdict text change ≡ Refused n p → WrongImport text change n p
  unfolding import_verdict
  is_wrong {n} {p} h =
      ⊎_elim
      (λ e. let w = (wrong_iff text n p).0 e in rw w.0 (wrong_text p w.1))
      (λ d.
      let g = (good_iff text (rows_of text)).0 (d.0, refl) in
      ⊎_elim
      (λ e. counts_wrong g e)
      (λ e.
      let c = counts_passed.0 e.0 in
      file_wrong (record { good_text = g; stops = c.0; few = c.1 }) ((refused_iff f n p).0 (rw or_passed at e.1)))
      ((else_refused (counts_verdict (length ts) (length cs)) _ n p).0 d.1))
      ((else_refused (text_verdict text) _ n p).0 h)

  wrong_is : {n p : ℕ} → WrongImport text change n p → import_verdict text change ≡ Refused n p
  wrong_is (wrong_text p w) = text_refused text change ((wrong_iff text _ p).1 (refl, w))
  wrong_is (wrong_stop_count_lem g w) = counts_refused text change ((good_iff text (rows_of text)).1 g).0 (stop _ rule4 w)
  wrong_is (wrong_connection_count_lem g s w) =
      counts_refused text change ((good_iff text (rows_of text)).1 g).0 (pass rule4 s (rule5.finds (λ l. omega arith)))
  wrong_is (wrong_transfer s k l b w) =
      let n = file_stops ts cs in
      let e = file_transfer ts cs s l in
      at_file k (file.wrong_transfer s (past6 k) (omega arith) (λ j i. (stop_iff j (omega arith)).1 (b j i)) (omega arith))
  wrong_is (wrong_stops_lem c h w) =
      let k = h.stopped.counted in
      at_file k (file.wrong_stops_lem c ((comes_iff k c).1 h) (λ x. w ((stops_iff k.good_text c h.below).0 x)))
  wrong_is (wrong_times_lem c h a w) =
      let k = h.stopped.counted in
      let g = k.good_text in
      let l = h.below in
      at_file k
      (file.wrong_times_lem c ((comes_iff k c).1 h) ((stops_iff g c l).1 a) (trip_good g c l) (λ x. w ((times_iff g c l).0 x)))
  wrong_is (wrong_join_lem c h a b w) =
      let k = h.stopped.counted in
      let g = k.good_text in
      let l = h.below in
      at_file k
      (file.wrong_join_lem c ((comes_iff k c).1 h) ((stops_iff g c l).1 a) (trip_good g c l) ((times_iff g c l).1 b)
      (λ x. w ((join_iff g c l).0 x)))

  -- an import is refused with a number at a place exactly if it is wrong so
  pub wrong_import_iff : (n p : ℕ) → (import_verdict text change ≡ Refused n p) ↔ WrongImport text change n p
  wrong_import_iff n p = (is_wrong, wrong_is)

  -- the file of a good import is accepted
  file_passes : GoodImport text change → file_verdict f ≡ Passed
  unfolding file_verdict
  file_passes i =
      let k = i.stopped.counted in
      let n = file_connections ts cs in
      let p = (stopped_iff k).1 i.stopped in
      let s = (below_passed (stop_verdict f) (stops f)).1 (λ s l. (rule7 f s).holds (p.transfers s l)) in
      let c = (below_passed (connection_verdict f) (connections f)).1
      (λ c l. let m : c < length cs = omega arith in connection_passes f c ((passes_iff k.good_text c m).1 (i.connections c m))) in
      rw (header_passes f (past6 k), s, c)

  pub good_timetable : GoodImport text change → Timetable (imported_file text change)
  good_timetable i = (accepted_iff f).0 (file_passes i)

  is_good : import_verdict text change ≡ Passed → GoodImport text change
  unfolding import_verdict
  is_good h =
      let a = (else_passed (text_verdict text) _).0 h in
      let b = (else_passed (counts_verdict (length ts) (length cs)) _).0 a.1 in
      let t = (accepted_iff f).0 ((else_passed (file_verdict f) Passed).0 b.1).0 in
      let g = (good_iff text (rows_of text)).0 (a.0, refl) in
      let c = counts_passed.0 b.0 in
      let k : Counted text change = record { good_text = g; stops = c.0; few = c.1 } in
      let n = file_stops ts cs in
      let m = file_connections ts cs in
      record {
        stopped = record { counted = k; transfers = λ s l. (stop_iff s l).0 (t.transfers s (omega arith)) };
        connections = λ c l. (passes_iff g c l).0 (good_connection f t c (omega arith));
      }

  good_is : GoodImport text change → import_verdict text change ≡ Passed
  good_is i =
      let k = i.stopped.counted in
      file_decides text change ((good_iff text (rows_of text)).1 k.good_text).0 (counts_passed.1 (k.stops, k.few)) ∙ file_passes i

  -- and accepted exactly if it is good
  pub good_import_iff : (import_verdict text change ≡ Passed) ↔ GoodImport text change
  good_import_iff = (is_good, good_is)

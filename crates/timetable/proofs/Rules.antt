-- The rules of the check, one for each refusal, in the terms of document 01. Assumes nothing.
use Rattle.std.proofs.Common.{◌≡◌, ℕ, zero, suc, ◌-◌, ◌<◌, ◌≤◌, Bool, true, false, not, ◌&&◌, ◌||◌, eqb, ltb, leb, List, [], ◌∷◌, length, refl, inl, inr, ⊎_elim, arith, eq-eqb, eqb-true, le-leb, leb-true}
use borrow.Author.Tests.{not-false}
use Rattle.refusals.specs.Answers.{refuse_if, is_passed, first_refusal, first_below, Passed, Refused}
use Rattle.timetable.specs.File.{header_length, file_length, marked, stops, connections, transfer_time, trip, from, to, scheduled_departure, scheduled_arrival, stays_aboard}
use Rattle.timetable.specs.File as file
use Rattle.refusals.specs.RefusalNumber as refusal
use Rattle.timetable.specs.Check.{format_version, max_stops, max_connections, max_transfer_time, last_scheduled, header_verdict, stop_verdict, wrong_stops, wrong_trip, wrong_times, breaks_off, wrong_join, connection_verdict}
use Rattle.timetable.specs.Refusals.{Past1, Past2, Past3, Past4, Past5, Past6, StopCount, StopPasses, GoodStops, GoodTrip, GoodTimes, GoesOn, GoodJoin, ConnectionPasses}
use Rattle.timetable.proofs.Tests.{Faults, below, at_most, equal, negated, unequal, either, and_left, and_right, and_both, neither, only_if, in_words}
use Rattle.timetable.proofs.Order.{Rule, rule, pass, stop, passes, below_passed, passed_fewer}

module _ (f : List ℕ) where
  -- refusals 1 to 7
  pub rule1 : Rule (refuse_if (ltb (length f) header_length) refusal.short_file 0) refusal.short_file 0 (header_length ≤ length f)
  rule1 = rule _ refusal.short_file 0 (below (length f) header_length)

  pub rule2 : Rule (refuse_if (not (marked f)) refusal.wrong_mark 0) refusal.wrong_mark 0 (marked f ≡ true)
  rule2 = rule _ refusal.wrong_mark 0 (negated (marked f))

  pub rule3 : Rule (refuse_if (not (eqb (file.version f) format_version)) refusal.wrong_version 0) refusal.wrong_version 0 (file.version f ≡ format_version)
  rule3 = rule _ refusal.wrong_version 0 (unequal (file.version f) format_version)

  stop_count_lem : Faults (not (leb 1 (stops f) && leb (stops f) max_stops)) (StopCount f)
  stop_count_lem = (
    λ h.
        let t = not-false _ h in
        record { some_stops = leb-true _ _ (and_left (leb 1 (stops f)) _ t); few_stops = leb-true _ _ (and_right (leb 1 (stops f)) _ t) },
    λ h. (negated _).1 (and_both _ _ (le-leb _ _ h.some_stops) (le-leb _ _ h.few_stops)),
  )

  pub rule4 : Rule (refuse_if (not (leb 1 (stops f) && leb (stops f) max_stops)) refusal.wrong_stop_count 0) refusal.wrong_stop_count 0 (StopCount f)
  rule4 = rule _ refusal.wrong_stop_count 0 stop_count_lem

  pub rule5 : Rule (refuse_if (ltb max_connections (connections f)) refusal.wrong_connection_count 0) refusal.wrong_connection_count 0 (connections f ≤ max_connections)
  rule5 = rule _ refusal.wrong_connection_count 0 (below max_connections (connections f))

  pub rule6 : Rule (refuse_if (not (eqb (length f) (file_length (stops f) (connections f)))) refusal.wrong_length 0) refusal.wrong_length 0 (length f ≡ file_length (stops f) (connections f))
  rule6 = rule _ refusal.wrong_length 0 (unequal (length f) (file_length (stops f) (connections f)))

  pub rule7 : (s : ℕ) → Rule (stop_verdict f s) refusal.wrong_transfer_time s (StopPasses f s)
  unfolding stop_verdict
  rule7 s = rule _ refusal.wrong_transfer_time s (below max_transfer_time (transfer_time f s))

  -- what the tests of a connection mean
  good_stops : (c : ℕ) → Faults (wrong_stops f c) (GoodStops f c)
  unfolding wrong_stops
  good_stops c =
      in_words
      (either _ _ (either _ _ (at_most (stops f) (from f c)) (at_most (stops f) (to f c))) (equal (from f c) (to f c)))
      (λ h. record { from_stop_lem = h.0.0; to_stop = h.0.1; apart = h.1 })
      (λ h. ((h.from_stop_lem, h.to_stop), h.apart))

  good_trip : (c : ℕ) → Faults (wrong_trip f c) (GoodTrip f c)
  unfolding wrong_trip
  good_trip zero = unequal (trip f zero) 0
  good_trip (suc c) =
      in_words
      (neither (eqb (trip f (suc c)) (trip f c)) (eqb (trip f (suc c)) (suc (trip f c))))
      (⊎_elim (λ h. inl (eqb-true _ _ h)) (λ h. inr (eqb-true _ _ h)))
      (⊎_elim (λ h. inl (eq-eqb _ _ h)) (λ h. inr (eq-eqb _ _ h)))

  good_times : (c : ℕ) → Faults (wrong_times f c) (GoodTimes f c)
  unfolding wrong_times
  good_times c =
      in_words
      (either _ _ (at_most (scheduled_arrival f c) (scheduled_departure f c)) (below last_scheduled (scheduled_arrival f c)))
      (λ h. record { forward = h.0; within = h.1 })
      (λ h. (h.forward, h.within))

  goes_on : (c : ℕ) → Faults (breaks_off f c (suc c)) (GoesOn f c)
  goes_on c =
      in_words
      (either _ _ (unequal (from f (suc c)) (to f c)) (below (scheduled_departure f (suc c)) (scheduled_arrival f c)))
      (λ h. record { joins = h.0; keeps = h.1 })
      (λ h. (h.joins, h.keeps))

  good_join : (c : ℕ) → Faults (wrong_join f c) (GoodJoin f c)
  unfolding wrong_join
  good_join zero = (λ h. tt, λ h. refl)
  good_join (suc c) = only_if (stays_aboard f (suc c)) _ (goes_on c)

  -- refusals 8 to 11
  module _ (c : ℕ) where
    pub rule8 : Rule (refuse_if (wrong_stops f c) refusal.wrong_stops c) refusal.wrong_stops c (GoodStops f c)
    rule8 = rule _ refusal.wrong_stops c (good_stops c)

    pub rule9 : Rule (refuse_if (wrong_trip f c) refusal.wrong_trip c) refusal.wrong_trip c (GoodTrip f c)
    rule9 = rule _ refusal.wrong_trip c (good_trip c)

    pub rule10 : Rule (refuse_if (wrong_times f c) refusal.wrong_times c) refusal.wrong_times c (GoodTimes f c)
    rule10 = rule _ refusal.wrong_times c (good_times c)

    pub rule11 : Rule (refuse_if (wrong_join f c) refusal.wrong_join c) refusal.wrong_join c (GoodJoin f c)
    rule11 = rule _ refusal.wrong_join c (good_join c)

  -- the header's verdict where refusals 1 to so many do not hold and the next does
  pub header1 : (header_length ≤ length f → ⊥) → header_verdict f ≡ Refused refusal.short_file 0
  unfolding header_verdict
  header1 wrong = stop _ rule1 wrong

  pub header2 : Past1 f → (marked f ≡ true → ⊥) → header_verdict f ≡ Refused refusal.wrong_mark 0
  unfolding header_verdict
  header2 h wrong = pass rule1 h.header (stop _ rule2 wrong)

  pub header3 : Past2 f → (file.version f ≡ format_version → ⊥) → header_verdict f ≡ Refused refusal.wrong_version 0
  unfolding header_verdict
  header3 h wrong = pass rule1 h.before.header (pass rule2 h.mark (stop _ rule3 wrong))

  pub header4 : Past3 f → (StopCount f → ⊥) → header_verdict f ≡ Refused refusal.wrong_stop_count 0
  unfolding header_verdict
  header4 h wrong =
      let g = h.before in
      pass rule1 g.before.header (pass rule2 g.mark (pass rule3 h.version (stop _ rule4 wrong)))

  pub header5 : Past4 f → (connections f ≤ max_connections → ⊥) → header_verdict f ≡ Refused refusal.wrong_connection_count 0
  unfolding header_verdict
  header5 i wrong =
      let h = i.before in
      let g = h.before in
      pass rule1 g.before.header (pass rule2 g.mark (pass rule3 h.version (pass rule4 i.stop_count_lem (stop _ rule5 wrong))))

  pub header6 : Past5 f → (length f ≡ file_length (stops f) (connections f) → ⊥) → header_verdict f ≡ Refused refusal.wrong_length 0
  unfolding header_verdict
  header6 j wrong =
      let i = j.before in
      let h = i.before in
      let g = h.before in
      pass rule1 g.before.header
      (pass rule2 g.mark (pass rule3 h.version (pass rule4 i.stop_count_lem (pass rule5 j.few (stop _ rule6 wrong)))))

  -- a header that passes, and what it tells
  pub header_passes : Past6 f → header_verdict f ≡ Passed
  unfolding header_verdict
  header_passes k =
      let j = k.before in
      let i = j.before in
      let h = i.before in
      let g = h.before in
      pass rule1 g.before.header
      (pass rule2 g.mark
      (pass rule3 h.version (pass rule4 i.stop_count_lem (pass rule5 j.few (pass rule6 k.long refl)))))

  pub header_past : header_verdict f ≡ Passed → Past6 f
  unfolding header_verdict
  header_past e =
      let a = passes _ rule1 e in
      let b = passes _ rule2 a.1 in
      let c = passes _ rule3 b.1 in
      let d = passes _ rule4 c.1 in
      let i = passes _ rule5 d.1 in
      let j = passes _ rule6 i.1 in
      record {
        before = record {
          before = record {
            before = record { before = record { before = record { header = a.0 }; mark = b.0 }; version = c.0 };
            stop_count_lem = d.0;
          };
          few = i.0;
        };
        long = j.0;
      }

  -- a connection that passes, and what it tells
  pub connection_passes : (c : ℕ) → ConnectionPasses f c → connection_verdict f c ≡ Passed
  unfolding connection_verdict
  connection_passes c h =
      pass (rule8 c) h.good_stops
      (pass (rule9 c) h.good_trip (pass (rule10 c) h.good_times (pass (rule11 c) h.good_join refl)))

  pub connection_good : (c : ℕ) → connection_verdict f c ≡ Passed → ConnectionPasses f c
  unfolding connection_verdict
  connection_good c e =
      let a = passes _ (rule8 c) e in
      let b = passes _ (rule9 c) a.1 in
      let d = passes _ (rule10 c) b.1 in
      let g = passes _ (rule11 c) d.1 in
      record { good_stops = a.0; good_trip = b.0; good_times = d.0; good_join = g.0 }

  -- it passes if no test finds fault, in whatever order
  pub connection_tests : (c : ℕ)
      → is_passed (connection_verdict f c) ≡ not (wrong_stops f c || wrong_times f c || (wrong_trip f c || wrong_join f c))
  unfolding connection_verdict
  connection_tests c =
      none (wrong_stops f c) (wrong_trip f c) (wrong_times f c) (wrong_join f c) refusal.wrong_stops refusal.wrong_trip refusal.wrong_times refusal.wrong_join
    where
      none : (a b d e : Bool) (i j k l : ℕ)
          → is_passed (first_refusal (refuse_if a i c ∷ refuse_if b j c ∷ refuse_if d k c ∷ refuse_if e l c ∷ [])) ≡ not (a || d || (b || e))
      none true b d e i j k l = refl
      none false true true e i j k l = refl
      none false true false e i j k l = refl
      none false false true e i j k l = refl
      none false false false true i j k l = refl
      none false false false false i j k l = refl

  -- where the first c connections pass, the last of them has a trip below c
  trip_low : (c : ℕ) → first_below (connection_verdict f) (suc c) ≡ Passed → trip f c ≤ c
  trip_low zero h = let t = (connection_good 0 ((below_passed (connection_verdict f) 1).0 h 0 (omega arith))).good_trip in omega arith
  trip_low (suc c) h =
      let l = trip_low c (passed_fewer (connection_verdict f) (suc (suc c)) (suc c) h (omega arith)) in
      ⊎_elim
      (λ (t : trip f (suc c) ≡ trip f c). omega arith)
      (λ (t : trip f (suc c) ≡ suc (trip f c)). omega arith)
      (connection_good (suc c) ((below_passed (connection_verdict f) (suc (suc c))).0 h (suc c) (omega arith))).good_trip

  pub trip_before : (c : ℕ) → 0 < c → first_below (connection_verdict f) c ≡ Passed → trip f (c - 1) < c
  trip_before zero l h = absurd (omega arith)
  trip_before (suc c) l h = let e : suc c - 1 ≡ c = omega arith in rw e (let k = trip_low c h in omega arith)

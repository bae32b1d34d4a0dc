-- The check refuses a file with a number and a place exactly where document 01 does. Assumes nothing.
use Rattle.std.proofs.Common.{◌≡◌, ℕ, ◌↔◌, List, refl, inl, ⊎_elim, arith}
use Rattle.refusals.specs.Answers.{first_below, Passed, Refused}
use Rattle.timetable.specs.File.{stops, connections}
use Rattle.refusals.specs.RefusalNumber as refusal
use Rattle.timetable.specs.Check.{header_verdict, stop_verdict, connection_verdict, file_verdict}
use Rattle.timetable.specs.Refusals.{Past1, Past2, Past3, Past4, Past5, Past6, Past7, Reaches, FileRefusal, no_header, wrong_mark_lem, wrong_version_lem, wrong_stop_count_lem, wrong_connection_count_lem, wrong_length_lem, wrong_transfer, wrong_stops_lem, wrong_trip_lem, wrong_times_lem, wrong_join_lem}
use Rattle.timetable.proofs.Order.{passed_not_refused, or_passed, else_refused, pass, stop, refuses, found, below_passed, below_refused, first_refuses}
use Rattle.timetable.proofs.Rules.{rule1, rule2, rule3, rule4, rule5, rule6, rule7, rule8, rule9, rule10, rule11, header1, header2, header3, header4, header5, header6, header_passes, header_past, connection_passes, connection_good}

module _ (f : List ℕ) where
  -- what a refusal by the header, at a stop and at a connection tells
  header_found : {n p : ℕ} → header_verdict f ≡ Refused n p → FileRefusal f n p
  unfolding header_verdict
  header_found e =
      refuses _ (FileRefusal f) (rule1 f) (λ w. no_header (omega arith))
      (λ a.
      let p1 : Past1 f = record { header = a } in
      refuses _ (FileRefusal f) (rule2 f) (wrong_mark_lem p1)
      (λ b.
      let p2 : Past2 f = record { before = p1; mark = b } in
      refuses _ (FileRefusal f) (rule3 f) (wrong_version_lem p2)
      (λ c.
      let p3 : Past3 f = record { before = p2; version = c } in
      refuses _ (FileRefusal f) (rule4 f) (wrong_stop_count_lem p3)
      (λ d.
      let p4 : Past4 f = record { before = p3; stop_count_lem = d } in
      refuses _ (FileRefusal f) (rule5 f) (λ w. wrong_connection_count_lem p4 (omega arith))
      (λ g.
      let p5 : Past5 f = record { before = p4; few = g } in
      refuses _ (FileRefusal f) (rule6 f) (wrong_length_lem p5) (λ h r. absurd (passed_not_refused refl r)))))))
      e

  stop_found : {n p : ℕ} → Past6 f → first_below (stop_verdict f) (stops f) ≡ Refused n p → FileRefusal f n p
  stop_found {n} {p} h e =
      let s = (below_refused (stop_verdict f) (stops f) n p).0 e in
      found (FileRefusal f) (rule7 f s.0) (λ w. wrong_transfer s.0 h s.1 (λ b l. (rule7 f b).keeps (s.3 b l)) (omega arith)) s.2

  connection_found : {n p : ℕ} → Past7 f → first_below (connection_verdict f) (connections f) ≡ Refused n p → FileRefusal f n p
  unfolding connection_verdict
  connection_found {n} {p} h e =
      let s = (below_refused (connection_verdict f) (connections f) n p).0 e in
      let c = s.0 in
      let r : Reaches f c = record { before = h; below = s.1; earlier = λ b l. connection_good f b (s.3 b l) } in
      refuses _ (FileRefusal f) (rule8 f c) (wrong_stops_lem c r)
      (λ a.
      refuses _ (FileRefusal f) (rule9 f c) (wrong_trip_lem c r a)
      (λ b.
      refuses _ (FileRefusal f) (rule10 f c) (wrong_times_lem c r a b)
      (λ d. refuses _ (FileRefusal f) (rule11 f c) (wrong_join_lem c r a b d) (λ g i. absurd (passed_not_refused refl i)))))
      s.2

  refusal_is : {n p : ℕ} → file_verdict f ≡ Refused n p → FileRefusal f n p
  unfolding file_verdict
  refusal_is {n} {p} e =
      ⊎_elim header_found
      (λ g.
      let h = header_past f g.0 in
      ⊎_elim (stop_found h)
      (λ i.
      connection_found
      (record { before = h; transfers = λ s l. (rule7 f s).keeps ((below_passed (stop_verdict f) (stops f)).0 i.0 s l) })
      (rw or_passed at i.1))
      ((else_refused (first_below (stop_verdict f) (stops f)) _ n p).0 g.1))
      ((else_refused (header_verdict f) _ n p).0 e)

  -- where the header, a stop or a connection refuses
  at_header : {n p : ℕ} → header_verdict f ≡ Refused n p → file_verdict f ≡ Refused n p
  unfolding file_verdict
  at_header {n} {p} e = (else_refused (header_verdict f) _ n p).1 (inl e)

  at_stop : {n p : ℕ} → header_verdict f ≡ Passed → first_below (stop_verdict f) (stops f) ≡ Refused n p → file_verdict f ≡ Refused n p
  unfolding file_verdict
  at_stop h e = rw (h, e)

  at_connection : {n p : ℕ} (c : ℕ) → Reaches f c → connection_verdict f c ≡ Refused n p → file_verdict f ≡ Refused n p
  unfolding file_verdict
  at_connection {n} {p} c r e =
      let s = (below_passed (stop_verdict f) (stops f)).1 (λ s l. (rule7 f s).holds (r.before.transfers s l)) in
      let g = (below_passed (connection_verdict f) c).1 (λ b l. connection_passes f b (r.earlier b l)) in
      rw (header_passes f r.before.before, s, first_refuses (connection_verdict f) c (connections f) n p r.below e g)

  is_refusal : {n p : ℕ} → FileRefusal f n p → file_verdict f ≡ Refused n p
  unfolding connection_verdict
  is_refusal (no_header h) = at_header (header1 f (λ l. omega arith))
  is_refusal (wrong_mark_lem h w) = at_header (header2 f h w)
  is_refusal (wrong_version_lem h w) = at_header (header3 f h w)
  is_refusal (wrong_stop_count_lem h w) = at_header (header4 f h w)
  is_refusal (wrong_connection_count_lem h w) = at_header (header5 f h (λ l. omega arith))
  is_refusal (wrong_length_lem h w) = at_header (header6 f h w)
  is_refusal (wrong_transfer s h l b w) =
      at_stop
      (header_passes f h)
      (first_refuses (stop_verdict f) s (stops f) refusal.wrong_transfer_time s l ((rule7 f s).finds (λ g. omega arith)) ((below_passed (stop_verdict f) s).1 (λ k i. (rule7 f k).holds (b k i))))
  is_refusal (wrong_stops_lem c r w) = at_connection c r (stop _ (rule8 f c) w)
  is_refusal (wrong_trip_lem c r a w) = at_connection c r (pass (rule8 f c) a (stop _ (rule9 f c) w))
  is_refusal (wrong_times_lem c r a b w) = at_connection c r (pass (rule8 f c) a (pass (rule9 f c) b (stop _ (rule10 f c) w)))
  is_refusal (wrong_join_lem c r a b d w) =
      at_connection c r (pass (rule8 f c) a (pass (rule9 f c) b (pass (rule10 f c) d (stop _ (rule11 f c) w))))

  -- the exact condition of each refusal
  pub refused_iff : (n p : ℕ) → (file_verdict f ≡ Refused n p) ↔ FileRefusal f n p
  refused_iff n p = (refusal_is, is_refusal)

-- The parts of an operation's refusals: in which order they decide, what passing gives, and which numbers they refuse with.
-- Assumes nothing.
use Rattle.std.proofs.Common.{◌≡◌, ℕ, ◌<◌, ◌≤◌, not, ltb, ◌⊎◌, ◌↔◌, List, [], ◌∷◌, ◌++◌, length, take, sym, refl, ap, ◌∙◌, inl, inr, ⊎_elim, arith, ltb-false, le-ltb}
use Rattle.refusals.specs.Answers.{refuse_if, or_else, Passed, Refused}
use Rattle.timetable.specs.File.{connections}
use Rattle.timetable.specs.Check.{file_verdict}
use Rattle.timetable.specs.Refusals.{FileRefusal, no_header, wrong_mark_lem, wrong_version_lem, wrong_stop_count_lem, wrong_connection_count_lem, wrong_length_lem, wrong_transfer, wrong_stops_lem, wrong_trip_lem, wrong_times_lem, wrong_join_lem}
use Rattle.timetable.proofs.Order.{or_passed, else_assoc}
use Rattle.timetable.proofs.Refusals.{refused_iff}
use Rattle.refusals.specs.RefusalNumber as refusal
use Rattle.model.specs.Notices.{notices_length, rows_verdict}
use Rattle.model.specs.declared.Notice.{Notice}
use Rattle.model.specs.Day.{Day, Areas}
use Rattle.model.specs.Drawn.{same, graph_length, graph_for, standing}
use Rattle.model.specs.Parts.{Ask, asked_verdict, Part, given, needs, rows, drawn, asks, part_verdict, verdict, areas_room, call_parts, room_verdict, contents_verdict, areas_verdict, open_verdict}
use Rattle.model.proofs.Verdicts.{passed_not_refused, else_passed, else_refused, if_passed, if_refused}
use Rattle.model.proofs.Rows.{rows_place}

-- room for so many numbers
pub needs_passed : (day : Day) (areas : Areas) (n : ℕ) (area : List ℕ) (most : ℕ)
    → (part_verdict day areas (needs n area most) ≡ Passed) ↔ (most ≤ length area)
unfolding part_verdict
needs_passed day areas n area most = (
  λ h. ltb-false (length area) most ((if_passed (ltb (length area) most) n 0).0 h),
  λ h. rw (le-ltb (length area) most h),
)

-- a file is refused with 1 to 11
pub file_number : {f : List ℕ} {n p : ℕ} → FileRefusal f n p → (0 < n) × (n ≤ refusal.wrong_join)
file_number (no_header h) = (omega arith, omega arith)
file_number (wrong_mark_lem h k) = (omega arith, omega arith)
file_number (wrong_version_lem h k) = (omega arith, omega arith)
file_number (wrong_stop_count_lem h k) = (omega arith, omega arith)
file_number (wrong_connection_count_lem h k) = (omega arith, omega arith)
file_number (wrong_length_lem h k) = (omega arith, omega arith)
file_number (wrong_transfer s h k l m) = (omega arith, omega arith)
file_number (wrong_stops_lem c h k) = (omega arith, omega arith)
file_number (wrong_trip_lem c h k l) = (omega arith, omega arith)
file_number (wrong_times_lem c h k l m) = (omega arith, omega arith)
file_number (wrong_join_lem c h k l m o) = (omega arith, omega arith)

-- n is one of the numbers that a call refuses with for its own numbers
abbrev pub AskedWith : List Ask → ℕ → Type 0
AskedWith [] n = ⊥
AskedWith (a ∷ more) n = (n ≡ a.number) ⊎ AskedWith more n

-- n is one of the numbers that a part refuses with
abbrev pub RefusesWith : Part → ℕ → Type 0
RefusesWith given n = (0 < n) × (n ≤ refusal.wrong_join)
RefusesWith (needs m area most) n = n ≡ m
RefusesWith rows n = n ≡ refusal.wrong_row
RefusesWith drawn n = n ≡ refusal.wrong_graph
RefusesWith (asks own) n = AskedWith own n

-- no part of a list refuses with n
abbrev pub Avoids : List Part → ℕ → Type 0
Avoids [] n = Unit {0}
Avoids (p ∷ ps) n = (RefusesWith p n → ⊥) × Avoids ps n

-- each number that a part refuses with is above 0 and has 16 bits
abbrev pub Numbered : List Part → Type 0
Numbered [] = Unit {0}
Numbered (p ∷ ps) = ((n : ℕ) → RefusesWith p n → (0 < n) × (n < 65536)) × Numbered ps

pub asked_number : (ns : List Notice) (own : List Ask) (n p : ℕ) → asked_verdict ns own ≡ Refused n p → AskedWith own n
asked_number ns [] n p h = absurd (passed_not_refused refl h)
asked_number ns (a ∷ more) n p h =
    ⊎_elim
    (λ e. inl (if_refused (a.fails ns) a.number 0 n p e).1)
    (λ e. inr (asked_number ns more n p e.1))
    ((else_refused (refuse_if (a.fails ns) a.number 0) (asked_verdict ns more) n p).0 h)

module _ (day : Day) (areas : Areas) where
  pub part_number : (part : Part) (n p : ℕ) → part_verdict day areas part ≡ Refused n p → RefusesWith part n
  unfolding part_verdict
  part_number given n p h = file_number ((refused_iff day.file n p).0 h)
  part_number (needs m area most) n p h = (if_refused (ltb (length area) most) m 0 n p h).1
  part_number rows n p h = (rows_place (connections day.file) areas.notices n p h).0
  part_number drawn n p h =
      (if_refused (not (same (take (graph_length day.file) areas.graph) (graph_for day (standing areas)))) refusal.wrong_graph 0 n p h).1
  part_number (asks own) n p h = asked_number (standing areas) own n p h

  -- parts refuse with no other numbers than their own
  pub avoids : (ps : List Part) (n p : ℕ) → Avoids ps n → verdict day areas ps ≡ Refused n p → ⊥
  avoids [] n p h e = passed_not_refused refl e
  avoids (q ∷ ps) n p h e =
      ⊎_elim
      (λ r. h.0 (part_number q n p r))
      (λ r. avoids ps n p h.1 r.1)
      ((else_refused (part_verdict day areas q) (verdict day areas ps) n p).0 e)

  -- no part refuses with 0, nor with a number that 16 bits do not hold
  pub parts_number : (ps : List Part) (n p : ℕ) → Numbered ps → verdict day areas ps ≡ Refused n p → (0 < n) × (n < 65536)
  parts_number [] n p h e = absurd (passed_not_refused refl e)
  parts_number (q ∷ ps) n p h e =
      ⊎_elim
      (λ r. h.0 n (part_number q n p r))
      (λ r. parts_number ps n p h.1 r.1)
      ((else_refused (part_verdict day areas q) (verdict day areas ps) n p).0 e)

  -- parts after parts
  pub verdict_append : (ps qs : List Part) → verdict day areas (ps ++ qs) ≡ or_else (verdict day areas ps) (verdict day areas qs)
  verdict_append [] qs = refl
  verdict_append (p ∷ ps) qs =
      ap (or_else (part_verdict day areas p)) (verdict_append ps qs)
      ∙ sym (else_assoc (part_verdict day areas p) (verdict day areas ps) (verdict day areas qs))

  module _ (further : List Part) (own : List Ask) where
    -- the parts of a call, one after the other
    pub call_chain : verdict day areas (call_parts day areas further own)
        ≡ or_else (file_verdict day.file)
        (or_else (room_verdict day areas)
        (or_else (verdict day areas further) (or_else (contents_verdict day areas) (asked_verdict (standing areas) own))))
    unfolding part_verdict
    call_chain =
        let e = verdict_append (rows ∷ drawn ∷ []) (asks own ∷ []) in
        rw (
          verdict_append (areas_room day areas) (further ++ (rows ∷ drawn ∷ asks own ∷ [])),
          verdict_append further (rows ∷ drawn ∷ asks own ∷ []),
          e,
          or_passed (asked_verdict (standing areas) own),
        )

    -- what is known where they pass
    pub record CallPassed : Type 0 where
      pub file : file_verdict day.file ≡ Passed
      pub room_passed : room_verdict day areas ≡ Passed
      pub further_passed : verdict day areas further ≡ Passed
      pub contents_passed : contents_verdict day areas ≡ Passed
      pub own_passed : asked_verdict (standing areas) own ≡ Passed

    pub call_passed : verdict day areas (call_parts day areas further own) ≡ Passed → CallPassed
    call_passed h =
        let a = (else_passed (file_verdict day.file) _).0 (sym call_chain ∙ h) in
        let b = (else_passed (room_verdict day areas) _).0 a.1 in
        let c = (else_passed (verdict day areas further) _).0 b.1 in
        let d = (else_passed (contents_verdict day areas) _).0 c.1 in
        record {
          file = a.0;
          room_passed = b.0;
          further_passed = c.0;
          contents_passed = d.0;
          own_passed = d.1;
        }

  -- the parts of a call that is lent no other areas: what is given and both areas, then its own numbers
  pub call_open : (own : List Ask) → verdict day areas (call_parts day areas [] own) ≡ or_else (open_verdict day areas) (asked_verdict (standing areas) own)
  call_open own =
      call_chain [] own
      ∙ rw (else_assoc (file_verdict day.file) (areas_verdict day areas) (asked_verdict (standing areas) own), else_assoc (room_verdict day areas) (contents_verdict day areas) (asked_verdict (standing areas) own))

  -- room in both areas
  pub room_long : room_verdict day areas ≡ Passed → (notices_length ≤ length areas.notices) × (graph_length day.file ≤ length areas.graph)
  room_long h =
      let a = (else_passed (part_verdict day areas (needs refusal.short_notices areas.notices notices_length)) _).0 h in
      let b = (else_passed (part_verdict day areas (needs refusal.short_graph areas.graph (graph_length day.file))) Passed).0 a.1 in
      ((needs_passed day areas refusal.short_notices areas.notices notices_length).0 a.0, (needs_passed day areas refusal.short_graph areas.graph (graph_length day.file)).0 b.0)

  pub long_room : notices_length ≤ length areas.notices → graph_length day.file ≤ length areas.graph → room_verdict day areas ≡ Passed
  long_room h k =
      rw (
        (needs_passed day areas refusal.short_notices areas.notices notices_length).1 h,
        (needs_passed day areas refusal.short_graph areas.graph (graph_length day.file)).1 k,
      )

  -- 23 refuses
  pub contents_refused : (n p : ℕ) → rows_verdict (connections day.file) areas.notices ≡ Refused n p → contents_verdict day areas ≡ Refused n p
  unfolding part_verdict
  contents_refused n p h = rw h

  -- 23 has passed: 24 decides
  pub contents_end : rows_verdict (connections day.file) areas.notices ≡ Passed
      → contents_verdict day areas ≡ refuse_if (not (same (take (graph_length day.file) areas.graph) (graph_for day (standing areas)))) refusal.wrong_graph 0
  unfolding part_verdict
  contents_end h = rw (h, or_passed)

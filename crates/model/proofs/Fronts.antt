-- An operation on the fronts of its areas gives what it gives on the whole areas, and what lies behind the fronts stays.
-- Assumes nothing.
use Rattle.std.proofs.Common.{◌≡◌, ℕ, ◌<◌, ◌≤◌, min, Bool, true, false, ltb, List, [], ◌++◌, reverse, length, take, drop, sym, refl, ap, ◌∙◌, ap₂, ⊎_elim, append_assoc, arith, take-append-drop, length-take, le-ltb, lt-ltb}
use lib.Seq.{take-append-le, drop-append-le}
use Rattle.refusals.specs.Answers.{accepted, or_else, answering, Verdict, Passed, Refused}
use Rattle.timetable.specs.File.{stops, connections}
use Rattle.timetable.specs.Check.{file_verdict, counts_of}
use Rattle.refusals.specs.RefusalNumber as refusal
use Rattle.model.specs.Notices.{notices_length, area_of, rows_verdict}
use Rattle.model.specs.declared.Notice.{Notice}
use Rattle.model.specs.Network.{Network, Sound}
use Rattle.model.specs.Times.{network_of}
use Rattle.model.specs.Predecessors.{predecessors, nowhere, journey_in}
use Rattle.model.specs.Margin.{margin_of}
use Rattle.model.specs.Day.{Day, Areas, lent}
use Rattle.model.specs.Drawn.{graph_length, graph_for, standing}
use Rattle.model.specs.Parts.{Ask, asked_verdict, Part, needs, rows, part_verdict, verdict, call_parts, enquiry_room, enquiry_asks, margin_asks, room_verdict, contents_verdict}
use Rattle.model.specs.Operations.{Outcome, outcome, concluded, built, changed, Enquiry, enquiry, answered, searched, enquired, margined}
use Rattle.model.proofs.ByCases.{by_lt}
use Rattle.model.proofs.Verdicts.{else_passed}
use Rattle.model.proofs.Rows.{rows_verdict_lem, rows_same}
use Rattle.model.proofs.Journeys.{journey_short}
use Rattle.model.proofs.Parts.{needs_passed, call_chain, call_passed, room_long}
use Rattle.model.proofs.Ready.{ready_by, sound}

-- the first k numbers of an area are all of it, or at least as many as are needed
abbrev pub Covers : ℕ → ℕ → List ℕ → Type 0
Covers k need area = min (length area) need ≤ k

-- areas with these numbers behind them
abbrev pub behind : Areas → List ℕ → List ℕ → Areas
behind areas rest rest' = lent (areas.notices ++ rest) (areas.graph ++ rest')

-- an outcome with these numbers behind its areas
abbrev pub outcome_behind : {A : Type 0} → Outcome A → List ℕ → List ℕ → Outcome A
outcome_behind o rest rest' = outcome o.answer (behind o.areas rest rest')

-- an enquiry with these numbers behind its areas
abbrev pub enquiry_behind : Enquiry → List ℕ → List ℕ → Enquiry
enquiry_behind e rest rest' = enquiry e.answer (e.work ++ rest) (e.journey ++ rest')

-- a front is too short if and only if the whole is
abbrev Decides : ℕ → List ℕ → List ℕ → Type 0
Decides need xs rest = ltb (length (xs ++ rest)) need ≡ ltb (length xs) need

-- a front that covers what is needed decides whether there is enough
pub covers_decides : (k need : ℕ) (area : List ℕ) → Covers k need area → Decides need (take k area) (drop k area)
covers_decides k need area h =
    rw (take-append-drop, length-take)
    (⊎_elim
    (λ (l : length area < need). rw (lt-ltb (length area) need l, lt-ltb (min k (length area)) need (omega arith)))
    (λ (l : need ≤ length area). rw (le-ltb (length area) need l, le-ltb (min k (length area)) need (omega arith)))
    (by_lt (length area) need))

-- what comes after a verdict matters where it passes
pub else_same : (v : Verdict) {w w' : Verdict} → (v ≡ Passed → w ≡ w') → or_else v w ≡ or_else v w'
else_same Passed h = h refl
else_same (Refused n p) h = refl

-- the value of an answer matters where it is accepted
pub answering_same : {A : Type 0} {v v' : Verdict} {x x' : A} → v ≡ v' → (v' ≡ Passed → x ≡ x') → answering v x ≡ answering v' x'
answering_same {A} {v} {v'} {x} {x'} e h = rw e (on v' h)
  where
    on : (v : Verdict) → (v ≡ Passed → x ≡ x') → answering v x ≡ answering v x'
    on Passed h = ap accepted (h refl)
    on (Refused n p) h = refl

-- what is known where a search begins
record Searches (net net' : Network) (work journey : List ℕ) : Type 0 where
  net_same : net ≡ net'
  sound_net : Sound net'
  work_room : net'.connections ≤ length work
  journey_room : net'.connections ≤ length journey

-- the end of an enquiry
module _ (net net' : Network) (work rest journey rest' : List ℕ) (a b t : ℕ) where
  abbrev w : List ℕ
  w = predecessors net' a t

  abbrev js : List ℕ
  js = journey_in net' w a b

  searched_behind : {v v' : Verdict} → v ≡ v' → (v' ≡ Passed → Searches net net' work journey)
      → searched v net a b t (work ++ rest) (journey ++ rest') ≡ enquiry_behind (searched v' net' a b t work journey) rest rest'
  searched_behind {v} {v'} e h = rw e (on v' h)
    where
      ends : Searches net net' work journey → (none : Bool) → nowhere net' w a b ≡ none
          → answered none net' t js (w ++ drop net'.connections (work ++ rest)) (journey ++ rest')
          ≡ enquiry_behind (answered none net' t js (w ++ drop net'.connections work) journey) rest rest'
      ends s true k = rw (drop-append-le net'.connections work rest s.work_room, append_assoc w)
      ends s false k =
          let l : length js ≤ length journey = omega (arith, journey_short net' a t s.sound_net b k, s.journey_room) in
          rw (drop-append-le net'.connections work rest s.work_room, drop-append-le (length js) journey rest' l, append_assoc w, append_assoc (reverse js))

      on : (v : Verdict) → (v ≡ Passed → Searches net net' work journey)
          → searched v net a b t (work ++ rest) (journey ++ rest') ≡ enquiry_behind (searched v net' a b t work journey) rest rest'
      on (Refused n p) h = refl
      on Passed h = rw (h refl).net_same (ends (h refl) (nowhere net' w a b) refl)

-- a day, the fronts of both areas, and what lies behind them
module _ (day : Day) (front : Areas) (rest rest' : List ℕ) where
  abbrev whole : Areas
  whole = behind front rest rest'

  -- the end of building, posting and withdrawing
  concluded_behind : {A : Type 0} {v v' : Verdict} {ns ns' : List Notice} (value : A) → v ≡ v'
      → (v' ≡ Passed → (room_verdict day front ≡ Passed) × (ns ≡ ns'))
      → concluded v day whole value ns ≡ outcome_behind (concluded v' day front value ns') rest rest'
  concluded_behind {A} {v} {v'} {ns} {ns'} value e h = rw e (on v' h)
    where
      on : (v : Verdict) → (v ≡ Passed → (room_verdict day front ≡ Passed) × (ns ≡ ns'))
          → concluded v day whole value ns ≡ outcome_behind (concluded v day front value ns') rest rest'
      on (Refused n p) h = refl
      on Passed h =
          let l = room_long day front (h refl).0 in
          rw (
            (h refl).1,
            drop-append-le notices_length front.notices rest l.0,
            drop-append-le (graph_length day.file) front.graph rest' l.1,
            append_assoc (area_of ns'),
            append_assoc (graph_for day ns'),
          )

  -- fronts that decide whether there is room
  module _ (n : Decides notices_length front.notices rest) (m : file_verdict day.file ≡ Passed → Decides (graph_length day.file) front.graph rest') where
    -- the parts about both areas tell the same
    room_same : file_verdict day.file ≡ Passed → room_verdict day whole ≡ room_verdict day front
    unfolding part_verdict
    room_same h = rw (n, m h)

    contents_same : room_verdict day front ≡ Passed → contents_verdict day whole ≡ contents_verdict day front
    unfolding part_verdict
    contents_same h =
        let l = room_long day front h in
        let C = connections day.file in
        rw (rows_verdict_lem C front.notices rest l.0)
        (else_same (rows_verdict C front.notices)
        (λ p. rw (rows_same C front.notices rest l.0 p, take-append-le (graph_length day.file) front.graph rest' l.1)))

    -- the notices are the same where the contents pass
    standing_same : room_verdict day front ≡ Passed → contents_verdict day front ≡ Passed → standing whole ≡ standing front
    unfolding part_verdict
    standing_same h k =
        rows_same (connections day.file) front.notices rest (room_long day front h).0 ((else_passed (part_verdict day front rows) _).0 k).0

    -- so do the parts of a call
    call_same : (further further' : List Part) (own : List Ask) → (file_verdict day.file ≡ Passed → verdict day whole further ≡ verdict day front further')
        → verdict day whole (call_parts day whole further own) ≡ verdict day front (call_parts day front further' own)
    call_same further further' own h =
        rw (call_chain day whole further own, call_chain day front further' own)
        (else_same (file_verdict day.file)
        (λ file.
        rw (room_same file, h file)
        (else_same (room_verdict day front)
        (λ room.
        else_same (verdict day front further')
        (λ more. rw (contents_same room) (else_same (contents_verdict day front) (λ contents. ap (λ (ns : List Notice). asked_verdict ns own) (standing_same room contents))))))))

    built_behind : built day whole ≡ outcome_behind (built day front) rest rest'
    unfolding built part_verdict
    built_behind =
        concluded_behind (counts_of day.file) (else_same (file_verdict day.file) room_same)
        (λ h. (((else_passed (file_verdict day.file) (room_verdict day front)).0 h).1, refl))

    changed_behind : (own : List Ask) (n : ℕ) (now : List Notice → List Notice) → changed day whole own n now ≡ outcome_behind (changed day front own n now) rest rest'
    unfolding changed
    changed_behind own n now =
        concluded_behind n (call_same [] [] own (λ h. refl))
        (λ h. let p = call_passed day front [] own h in (p.room_passed, ap now (standing_same p.room_passed p.contents_passed)))

    margined_same : (c d : ℕ) → margined day whole c d ≡ margined day front c d
    unfolding margined
    margined_same c d =
        let own = margin_asks day.file c d in
        answering_same (call_same [] [] own (λ h. refl))
        (λ h. let p = call_passed day front [] own h in ap (λ (ns : List Notice). margin_of (network_of day ns) c d) (standing_same p.room_passed p.contents_passed))

    module _ (work rest₂ journey rest₃ : List ℕ) (p : file_verdict day.file ≡ Passed → Decides (connections day.file) work rest₂)
        (q : file_verdict day.file ≡ Passed → Decides (connections day.file) journey rest₃) where
      enquired_behind : (a b t : ℕ)
          → enquired day whole (work ++ rest₂) (journey ++ rest₃) a b t ≡ enquiry_behind (enquired day front work journey a b t) rest₂ rest₃
      unfolding enquired network_of part_verdict
      enquired_behind a b t =
          let C = connections day.file in
          let own = enquiry_asks (stops day.file) a b t in
          let more = enquiry_room day work journey in
          searched_behind (network_of day (standing whole)) (network_of day (standing front)) work rest₂ journey rest₃ a b t
          (call_same (enquiry_room day (work ++ rest₂) (journey ++ rest₃)) more own (λ h. rw (p h, q h)))
          (λ h.
          let o = call_passed day front more own h in
          let w = (else_passed (part_verdict day front (needs refusal.short_work work C)) _).0 o.further_passed in
          let j = (else_passed (part_verdict day front (needs refusal.short_journey journey C)) Passed).0 w.1 in
          record {
            net_same = ap (network_of day) (standing_same o.room_passed o.contents_passed);
            sound_net = sound day front (ready_by day front o.file o.room_passed o.contents_passed);
            work_room = (needs_passed day front refusal.short_work work C).0 w.0;
            journey_room = (needs_passed day front refusal.short_journey journey C).0 j.0;
          })

-- the fronts of both areas: the first k and m numbers
abbrev pub fronts : Areas → ℕ → ℕ → Areas
fronts areas k m = lent (take k areas.notices) (take m areas.graph)

module _ (day : Day) (areas : Areas) (k m : ℕ) (n : Covers k notices_length areas.notices)
    (g : file_verdict day.file ≡ Passed → Covers m (graph_length day.file) areas.graph) where
  abbrev n' : Decides notices_length (take k areas.notices) (drop k areas.notices)
  n' = covers_decides k notices_length areas.notices n

  abbrev g' : file_verdict day.file ≡ Passed → Decides (graph_length day.file) (take m areas.graph) (drop m areas.graph)
  g' h = covers_decides m (graph_length day.file) areas.graph (g h)

  -- the areas are front and rest
  parted : areas ≡ behind (fronts areas k m) (drop k areas.notices) (drop m areas.graph)
  parted = sym (ap₂ lent (take-append-drop k areas.notices) (take-append-drop m areas.graph))

  -- building on the fronts gives what it gives on the areas, and what lies behind stays
  pub front_built : built day areas ≡ outcome_behind (built day (fronts areas k m)) (drop k areas.notices) (drop m areas.graph)
  front_built = ap (built day) parted ∙ built_behind day (fronts areas k m) (drop k areas.notices) (drop m areas.graph) n' g'

  -- so does a call that changes the notices
  pub front_changed : (own : List Ask) (number : ℕ) (now : List Notice → List Notice)
      → changed day areas own number now ≡ outcome_behind (changed day (fronts areas k m) own number now) (drop k areas.notices) (drop m areas.graph)
  front_changed own number now =
      ap (λ (x : Areas). changed day x own number now) parted
      ∙ changed_behind day (fronts areas k m) (drop k areas.notices) (drop m areas.graph) n' g' own number now

  -- the margin is the same
  pub front_margined : (c d : ℕ) → margined day areas c d ≡ margined day (fronts areas k m) c d
  front_margined c d =
      ap (λ (x : Areas). margined day x c d) parted
      ∙ margined_same day (fronts areas k m) (drop k areas.notices) (drop m areas.graph) n' g' c d

  -- an enquiry's answer is the same, and what lies behind the fronts of predecessors and journey stays
  pub front_enquired : (work journey : List ℕ) (u v : ℕ) → (file_verdict day.file ≡ Passed → Covers u (connections day.file) work)
      → (file_verdict day.file ≡ Passed → Covers v (connections day.file) journey) → (a b t : ℕ)
      → enquired day areas work journey a b t
      ≡ enquiry_behind (enquired day (fronts areas k m) (take u work) (take v journey) a b t) (drop u work) (drop v journey)
  front_enquired work journey u v p q a b t =
      ap (λ (x : Areas). enquired day x work journey a b t) parted
      ∙ sym (ap₂ (λ x y. enquired day (behind (fronts areas k m) (drop k areas.notices) (drop m areas.graph)) x y a b t) (take-append-drop u work) (take-append-drop v journey))
      ∙ enquired_behind day (fronts areas k m) (drop k areas.notices) (drop m areas.graph) n' g' (take u work) (drop u work) (take v journey) (drop v journey)
      (λ h. covers_decides u (connections day.file) work (p h)) (λ h. covers_decides v (connections day.file) journey (q h)) a b t

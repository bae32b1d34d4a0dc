-- The areas that an enquiry is lent: when each refusal is given, and what is known where they pass. Assumes nothing.
use Rattle.std.proofs.Common.{◌≡◌, ℕ, ◌≤◌, List, length, sym, refl, ◌∙◌}
use Rattle.graph.specs.Answers.{or_else, Passed, Refused}
use Rattle.timetable.specs.File.{connections}
use Rattle.timetable.specs.Accepted.{Timetable}
use Rattle.timetable.proofs.Accepted.{accepted_iff}
use Rattle.timetable.proofs.Tests.{below}
use Rattle.timetable.proofs.Order.{else_passed, Rule, rule, pass, stop, passes}
use Rattle.graph.specs.RefusalNumber as refusal
use Rattle.model.specs.Day.{Day, Areas}
use Rattle.model.specs.Parts.{needs, part_verdict, verdict, areas_room, enquiry_room, room_verdict}
use Rattle.model.specs.Ready.{Ready}
use Rattle.model.proofs.Parts.{verdict_append}
use Rattle.model.proofs.Ready.{ready_by}
use Rattle.requests.specs.Lent.{room_for, lent_verdict}

module _ (day : Day) (areas : Areas) (work journey : List ℕ) where
  -- room in both areas, then in the two others
  pub room_parts : room_for day areas work journey ≡ or_else (room_verdict day areas) (verdict day areas (enquiry_room day work journey))
  room_parts = verdict_append day areas (areas_room day areas) (enquiry_room day work journey)

  -- room in both areas is refused
  pub room_refused : (n p : ℕ) → room_verdict day areas ≡ Refused n p → Refused n p ≡ room_for day areas work journey
  room_refused n p h = rw (room_parts, h)

  -- it is not: 28, then 29
  abbrev n : ℕ
  n = connections day.file

  work_rule : Rule (part_verdict day areas (needs refusal.short_work work n)) refusal.short_work 0 (n ≤ length work)
  unfolding part_verdict
  work_rule = rule _ refusal.short_work 0 (below (length work) n)

  journey_rule : Rule (part_verdict day areas (needs refusal.short_journey journey n)) refusal.short_journey 0 (n ≤ length journey)
  unfolding part_verdict
  journey_rule = rule _ refusal.short_journey 0 (below (length journey) n)

  module _ (h : room_verdict day areas ≡ Passed) where
    further : room_for day areas work journey ≡ verdict day areas (enquiry_room day work journey)
    further = room_parts ∙ rw h

    pub work_short : (n ≤ length work → ⊥) → Refused refusal.short_work 0 ≡ room_for day areas work journey
    work_short k = sym (further ∙ stop _ work_rule k)

    pub journey_short : n ≤ length work → (n ≤ length journey → ⊥) → Refused refusal.short_journey 0 ≡ room_for day areas work journey
    journey_short k l = sym (further ∙ pass work_rule k (stop _ journey_rule l))

    pub room_passes : n ≤ length work → n ≤ length journey → Passed ≡ room_for day areas work journey
    room_passes k l = sym (further ∙ pass work_rule k (pass journey_rule l refl))

  -- what is known where there is room
  pub record LentRoom : Type 0 where
    pub both : room_verdict day areas ≡ Passed
    pub work_room : n ≤ length work
    pub journey_room : n ≤ length journey

  pub room_passed : room_for day areas work journey ≡ Passed → LentRoom
  room_passed h =
      let a = (else_passed (room_verdict day areas) _).0 (sym room_parts ∙ h) in
      let b = passes _ work_rule a.1 in
      record { both = a.0; work_room = b.0; journey_room = (passes _ journey_rule b.1).0 }

  pub lent_room : lent_verdict day areas work journey ≡ Passed → LentRoom
  lent_room h = room_passed ((else_passed (room_for day areas work journey) _).0 h).0

  -- areas that pass are ready
  pub lent_ready : Timetable day.file → lent_verdict day areas work journey ≡ Passed → Ready day areas
  lent_ready timetable h =
      let a = (else_passed (room_for day areas work journey) _).0 h in
      ready_by day areas ((accepted_iff day.file).1 timetable) (room_passed a.0).both a.1

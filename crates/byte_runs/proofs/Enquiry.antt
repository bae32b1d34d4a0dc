-- What an enquiry with room for each connection leaves of its two areas of numbers. Assumes nothing.
use Rattle.std.proofs.Common.{◌≡◌, ℕ, ◌+◌, ◌-◌, ◌≤◌, Bool, true, false, List, ◌++◌, reverse, length, drop, sym, refl, ap, ◌∙◌, arith, length-append, length-drop, drop-drop, drop_at}
use lib.ListN.{length-reverse}
use Rattle.timetable.specs.File.{connections}
use Rattle.refusals.specs.Answers.{Verdict, Passed, Refused}
use Rattle.model.specs.Network.{Network}
use Rattle.model.specs.Times.{network_of}
use Rattle.model.specs.Predecessors.{predecessors, nowhere, journey_in}
use Rattle.model.specs.Day.{Day, Areas}
use Rattle.model.specs.Drawn.{network_by}
use Rattle.model.specs.Parts.{verdict}
use Rattle.model.specs.Operations.{Enquiry, answered, searched, enquiry_parts, enquired}
use Rattle.model.proofs.Rounds.{length_predecessors}
use Rattle.model.proofs.Ready.{sound}
use Rattle.model.proofs.Journeys.{journey_short}
use Rattle.model.proofs.Enquiries.{enquiry_ready}

-- both areas are as long as they were, and from k numbers on as they were
pub record Keeps (k : ℕ) (work journey : List ℕ) (e : Enquiry) : Type 0 where
  pub work_long : length e.work ≡ length work
  pub work_rest : drop k e.work ≡ drop k work
  pub journey_long : length e.journey ≡ length journey
  pub journey_rest : drop k e.journey ≡ drop k journey

module _ (front area : List ℕ) where
  -- a list written over the front of an area that has room for it
  front_long : length front ≤ length area → length (front ++ drop (length front) area) ≡ length area
  front_long h = simp (length-append, length-drop) (omega arith)

  front_rest : (k : ℕ) → length front ≤ k → drop k (front ++ drop (length front) area) ≡ drop k area
  front_rest k h =
      let d = k - length front in
      let e : k ≡ length front + d = omega arith in
      ap (λ (i : ℕ). drop i (front ++ drop (length front) area)) e
      ∙ sym (drop-drop d (length front) (front ++ drop (length front) area))
      ∙ ap (drop d) (drop_at front (drop (length front) area) (length front) refl)
      ∙ drop-drop d (length front) area
      ∙ ap (λ (i : ℕ). drop i area) (sym e)

module _ (day : Day) (areas : Areas) (work journey : List ℕ) (a b t : ℕ) (l : connections day.file ≤ length work)
    (m : connections day.file ≤ length journey) where
  abbrev net : Network
  net = network_by day areas

  abbrev C : ℕ
  C = connections day.file

  abbrev w : List ℕ
  w = predecessors net a t

  filled : length w ≡ C
  unfolding network_of
  filled = length_predecessors net a t

  work_kept : (length (w ++ drop C work) ≡ length work) × (drop C (w ++ drop C work) ≡ drop C work)
  work_kept = rw (← filled) (front_long w work (omega (arith, filled)), front_rest w work (length w) (omega arith))

  short : verdict day areas (enquiry_parts day areas work journey a b t) ≡ Passed → nowhere net w a b ≡ false → length (journey_in net w a b) ≤ C
  unfolding network_of
  short e q = journey_short net a t (sound day areas (enquiry_ready day areas work journey a b t e)) b q

  -- the search, with or without a journey
  by_search : verdict day areas (enquiry_parts day areas work journey a b t) ≡ Passed → (none : Bool) → nowhere net w a b ≡ none
      → Keeps C work journey (answered none net t (journey_in net w a b) (w ++ drop C work) journey)
  by_search e true q = record { work_long = work_kept.0; work_rest = work_kept.1; journey_long = refl; journey_rest = refl }
  by_search e false q =
      let js = journey_in net w a b in
      let r : length (reverse js) ≡ length js = length-reverse js in
      let s : length (reverse js) ≤ C = rw r (short e q) in
      record {
        work_long = work_kept.0;
        work_rest = work_kept.1;
        journey_long = rw (← r) (front_long (reverse js) journey (omega arith));
        journey_rest = rw (← r) (front_rest (reverse js) journey C s);
      }

  by_verdict : (v : Verdict) → verdict day areas (enquiry_parts day areas work journey a b t) ≡ v → Keeps C work journey (searched v net a b t work journey)
  unfolding network_of
  by_verdict (Refused n p) e = record { work_long = refl; work_rest = refl; journey_long = refl; journey_rest = refl }
  by_verdict Passed e = by_search e (nowhere net w a b) refl

  pub enquiry_keeps : Keeps (connections day.file) work journey (enquired day areas work journey a b t)
  unfolding enquired
  enquiry_keeps = by_verdict (verdict day areas (enquiry_parts day areas work journey a b t)) refl

-- What an enquiry's answer means: an answer is the best journey, refusal 30 that there is none. Assumes nothing.
use Rattle.std.proofs.Common.{◌≡◌, ℕ, Bool, true, false, List, ◌++◌, length, drop, sym, refl, ⊎_elim, arith}
use Rattle.timetable.specs.File.{stops}
use Rattle.refusals.specs.Answers.{Verdict, Passed, Refused}
use Rattle.refusals.specs.RefusalNumber as refusal
use Rattle.model.specs.Network.{Network, Sound}
use Rattle.model.specs.Journeys.{arrives}
use Rattle.model.specs.Predecessors.{predecessors, nowhere, journey_in}
use Rattle.model.specs.Day.{Day, Areas}
use Rattle.model.specs.Drawn.{network_by}
use Rattle.model.specs.Parts.{verdict, enquiry_room, enquiry_asks}
use Rattle.model.specs.Operations.{answered, searched, enquiry_parts, enquired}
use Rattle.model.specs.declared.Arrival.{Arrival}
use Rattle.model.specs.Ready.{Ready}
use Rattle.model.specs.Meaning.{Means}
use Rattle.model.proofs.Verdicts.{accepted_not_refused}
use Rattle.model.proofs.Journeys.{nowhere_iff, journey_best}
use Rattle.model.proofs.Parts.{Avoids, avoids, call_passed}
use Rattle.model.proofs.Ready.{ready_by, sound}

-- the end of an enquiry over a sound network
pub search_means : (net : Network) → Sound net → (a b t : ℕ) (work journey : List ℕ)
    → Means net a b t journey (searched Passed net a b t work journey).journey (searched Passed net a b t work journey).answer
search_means net s a b t work journey = on (nowhere net w a b) refl
  where
    w : List ℕ
    w = predecessors net a t

    on : (none : Bool) → nowhere net w a b ≡ none
        → Means net a b t journey (answered none net t (journey_in net w a b) (w ++ drop net.connections work) journey).journey
        (answered none net t (journey_in net w a b) (w ++ drop net.connections work) journey).answer
    on true e = record { answered = λ v h. absurd (accepted_not_refused (sym h)); refused_30 = λ p h. (nowhere_iff net a t s b).0 e }
    on false e =
        record {
          answered = λ v h.
              let q : ◌≡◌ {A = Arrival} (record { time = arrives net t (journey_in net w a b); connections = length (journey_in net w a b) }) v = cc in
              record { connections = journey_in net w a b; best = journey_best net a t s b e; time = rw (← q); count = rw (← q); written = refl };
          refused_30 = λ p h. absurd (accepted_not_refused h);
        }

module _ (day : Day) (areas : Areas) (work journey : List ℕ) (a b t : ℕ) where
  -- none of an enquiry's parts refuses with 30
  pub before_30 : Avoids (enquiry_parts day areas work journey a b t) refusal.unreachable
  before_30 = (
    λ h. omega arith,
    (
      λ h. omega arith,
      (
        λ h. omega arith,
        (
          λ h. omega arith,
          (
            λ h. omega arith,
            (
              λ h. omega arith,
              (
                λ h. omega arith,
                (⊎_elim (λ e. omega arith) (⊎_elim (λ e. omega arith) (λ e. e)), tt),
              ),
            ),
          ),
        ),
      ),
    ),
  )

  -- where they pass, the areas are ready
  pub enquiry_ready : verdict day areas (enquiry_parts day areas work journey a b t) ≡ Passed → Ready day areas
  enquiry_ready e =
      let p = call_passed day areas (enquiry_room day work journey) (enquiry_asks (stops day.file) a b t) e in
      ready_by day areas p.file p.room_passed p.contents_passed

  -- what an enquiry's answer means, whatever comes in
  pub enquiry_means : Means (network_by day areas) a b t journey (enquired day areas work journey a b t).journey (enquired day areas work journey a b t).answer
  unfolding enquired
  enquiry_means = on (verdict day areas (enquiry_parts day areas work journey a b t)) refl
    where
      on : (v : Verdict) → verdict day areas (enquiry_parts day areas work journey a b t) ≡ v
          → Means (network_by day areas) a b t journey (searched v (network_by day areas) a b t work journey).journey (searched v (network_by day areas) a b t work journey).answer
      on Passed e = search_means (network_by day areas) (sound day areas (enquiry_ready e)) a b t work journey
      on (Refused n p) e =
          record {
            answered = λ v h. absurd (accepted_not_refused (sym h));
            refused_30 = λ q h.
                let m : n ≡ refusal.unreachable = cc in
                absurd (avoids day areas (enquiry_parts day areas work journey a b t) refusal.unreachable p before_30 (rw m at e));
          }

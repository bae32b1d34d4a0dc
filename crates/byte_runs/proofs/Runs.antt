-- A run by the functions for C is the run on numbers, and the claim holds of it. Assumes nothing.
use Rattle.std.proofs.Common.{◌≡◌, ℕ, ◌%◌, ◌<◌, ◌≤◌, false, List, [], ◌∷◌, ◌++◌, length, drop, sym, refl, ap, ◌∙◌, ap₂, ⊎_elim, arith}
use Rattle.numbers.specs.Numbers.{numbers_of, over_bytes}
use Rattle.numbers.proofs.Areas.{length_numbers}
use Rattle.refusals.specs.Answers.{Answer, accepted, refused, Verdict, Passed, Refused}
use Rattle.timetable.specs.File.{connections}
use Rattle.timetable.specs.Check.{file_verdict, counts_of}
use Rattle.timetable.specs.declared.Counts.{Counts}
use Rattle.refusals.specs.RefusalNumber as refusal
use Rattle.model.specs.Notices.{notices_length, area_of, WellFormed}
use Rattle.model.specs.declared.Notice.{Notice}
use Rattle.model.specs.Day.{Day, Areas}
use Rattle.model.specs.Drawn.{graph_length, graph_for}
use Rattle.model.specs.Parts.{part_verdict, verdict, building_parts, room_verdict}
use Rattle.model.specs.Operations.{Outcome, written, concluded, built, enquired}
use Rattle.model.specs.declared.Arrival.{Arrival}
use Rattle.model.specs.Register.{Call, register_step, kept}
use Rattle.model.specs.Runs.{called, over_areas, register_of}
use Rattle.model.proofs.Verdicts.{else_passed, accepted_not_refused}
use Rattle.model.proofs.Areas.{length_area}
use Rattle.model.proofs.Parts.{room_long}
use Rattle.model.proofs.Ready.{graph_long}
use Rattle.model.proofs.Enquiries.{enquiry_means}
use Rattle.model.proofs.Register.{arranged_on, arranged}
use Rattle.model.proofs.Runs.{Agree, Keeps, none_formed, building_is, building_number, step, run_agrees, held, refusals_kept, network_kept}
use Rattle.codes.specs.Encoded.{number_size, coded, coded_counts, coded_arrival}
use Rattle.coded_updates.specs.Updated.{coded_by}
use Rattle.byte_runs.specs.Runs.{ByteAreas, as_numbers, Bytewise, Answers, Calls, done, more, ByteRun, codes_of, ByteEnquiry, EnquiryClaim, ByteClaim}
use Rattle.byte_runs.proofs.Written.{all_written, Stays, stays, reads, stays_after, past_written}
use Rattle.byte_runs.proofs.Enquiry.{enquiry_keeps}

-- an accepted building had room in both areas
building_room : (day : Day) (areas : Areas) (counts : Counts) → (built day areas).answer ≡ accepted counts
    → (notices_length ≤ length areas.notices) × (graph_length day.file ≤ length areas.graph)
unfolding built part_verdict
building_room day areas counts h =
    room_long day areas ((else_passed (file_verdict day.file) (room_verdict day areas)).0 (on (verdict day areas (building_parts day areas)) h)).1
  where
    on : (v : Verdict) → (concluded v day areas (counts_of day.file) []).answer ≡ accepted counts → v ≡ Passed
    on Passed e = refl
    on (Refused n p) e = absurd (accepted_not_refused (sym e))

-- a building whose answer's number is 0 is accepted
accepted_by : (day : Day) (areas : Areas) (building : ℕ) → building ≡ coded_counts (built day areas).answer → building % number_size ≡ 0
    → (counts : Counts) × ((built day areas).answer ≡ accepted counts)
accepted_by day areas building e h = on (built day areas).answer refl
  where
    on : (a : Answer Counts) → (built day areas).answer ≡ a → (counts : Counts) × ((built day areas).answer ≡ accepted counts)
    on (accepted counts) q = (counts, q)
    on (refused n p) q =
        let b = building_number day areas n p q in
        let c : building ≡ coded_counts (refused n p) = e ∙ ap coded_counts q in
        absurd (omega (arith, b.0, b.1))

module _ (day : Day) (areas₀ : ByteAreas) (counts : Counts) (h : (built day (as_numbers areas₀)).answer ≡ accepted counts) where
  abbrev A : Areas
  A = as_numbers areas₀

  abbrev C : ℕ
  C = connections day.file

  abbrev pass : file_verdict day.file ≡ Passed
  pass = (building_is day A counts h).0

  -- the areas are those of a register, and past their stated lengths as they were
  record Runs (register : List Notice) (areas : ByteAreas) : Type 0 where
    keeps : Keeps day (as_numbers areas₀) (as_numbers areas) register
    notices_stay : Stays notices_length areas₀.notices areas.notices
    graph_stays : Stays (graph_length day.file) areas₀.graph areas.graph
    bytes : Bytewise areas

  -- areas of some rows written over them
  after_writing : (register : List Notice) (areas : ByteAreas) → Stays notices_length areas₀.notices areas.notices
      → Stays (graph_length day.file) areas₀.graph areas.graph → Bytewise areas
      → (o : Areas) → o ≡ written day (as_numbers areas₀) (arranged register) → WellFormed (connections day.file) (arranged register)
      → (areas' : ByteAreas) → areas'.notices ≡ over_bytes o.notices areas.notices → areas'.graph ≡ over_bytes o.graph areas.graph
      → Bytewise areas' → Runs register areas'
  after_writing register areas ns gs b o e w areas' n' g' b' =
      let ms = arranged register in
      let room = building_room day A counts h in
      let p : areas'.notices ≡ over_bytes (area_of ms ++ drop notices_length A.notices) areas.notices =
      n' ∙ ap (λ (x : Areas). over_bytes x.notices areas.notices) e in
      let q : areas'.graph ≡ over_bytes (graph_for day ms ++ drop (graph_length day.file) A.graph) areas.graph =
      g' ∙ ap (λ (x : Areas). over_bytes x.graph areas.graph) e in
      let l = length_area ms w.fits in
      let g = graph_long day ms in
      record {
        keeps = record {
          areas_are = ap₂ (λ (x y : List ℕ). record { notices = x; graph = y })
              (reads notices_length areas₀.notices areas.notices (area_of ms) room.0 l b.notices_bytes ns areas'.notices p)
              (reads (graph_length day.file) areas₀.graph areas.graph (graph_for day ms) room.1 g b.graph_bytes gs areas'.graph q);
          formed = w;
        };
        notices_stay = stays_after notices_length areas₀.notices areas.notices (area_of ms) room.0 l b.notices_bytes ns areas'.notices p;
        graph_stays = stays_after (graph_length day.file) areas₀.graph areas.graph (graph_for day ms) room.1 g b.graph_bytes gs areas'.graph q;
        bytes = b';
      }

  -- the building's
  begins : (building : ℕ) (begun : ByteAreas) → Bytewise areas₀ → Answers (coded_by coded_counts (built day (as_numbers areas₀))) areas₀ building begun
      → Runs [] begun
  unfolding arranged_on
  begins building begun b x =
      after_writing [] areas₀ (stays notices_length areas₀.notices) (stays (graph_length day.file) areas₀.graph) b
      (built day A).areas (ap (λ (o : Outcome Counts). o.areas) (building_is day A counts h).1) (none_formed C)
      begun x.promised.notices_written x.promised.graph_written x.bytes

  -- the calls answer as the register does
  works_on : {before after : ByteAreas} {calls : List Call} {answers : List ℕ} → Calls day before calls answers after
      → (register : List Notice) → Runs register before
      → (answers ≡ codes_of (kept (connections day.file) register calls).answers) × Runs (kept (connections day.file) register calls).register after
  unfolding kept codes_of
  works_on done register r = (refl, r)
  works_on (more {before} {between} {after} {call} {calls} {answer} {answers} x rest) register r =
      let next = register_step C register call in
      let s : Agree day A (called day (as_numbers before) call) next = rw r.keeps.areas_are (step day A register r.keeps.formed pass call) in
      let n = after_writing next.register before r.notices_stay r.graph_stays r.bytes (called day (as_numbers before) call).areas
      s.keeps.areas_are s.keeps.formed between x.promised.notices_written x.promised.graph_written x.bytes in
      let t = works_on rest next.register n in
      (ap₂ (λ (y : ℕ) (ys : List ℕ). y ∷ ys) (x.promised.answer ∙ ap coded s.answer) t.0, t.1)

  -- an enquiry on areas of a register
  module _ (register : List Notice) (areas : ByteAreas) (r : Runs register areas) (work₀ journey₀ : List ℕ) (a b t code : ℕ) (work journey : List ℕ)
      (x : ByteEnquiry day areas work₀ journey₀ a b t code work journey) where
    room_work : connections day.file ≤ length (numbers_of work₀)
    room_work = omega (arith, length_numbers work₀)

    room_journey : connections day.file ≤ length (numbers_of journey₀)
    room_journey = omega (arith, length_numbers journey₀)

    other_number : (n p k : ℕ) → code ≡ coded_arrival (refused n p) → over_areas k ≡ false → k < number_size → n ≡ k → over_areas (code % number_size) ≡ false
    other_number n p k e o s q = let i : code % number_size ≡ k = omega arith in rw i o

    not_over : (answer : Answer Arrival) → (enquired day (as_numbers areas) (numbers_of work₀) (numbers_of journey₀) a b t).answer ≡ answer
        → code ≡ coded_arrival answer → over_areas (code % number_size) ≡ false
    unfolding over_areas
    not_over (accepted v) q e = let i : code % number_size ≡ 0 = omega arith in rw i
    not_over (refused n p) q e =
        ⊎_elim
        (⊎_elim
        (other_number n p refusal.unknown_stop e refl (omega arith))
        (⊎_elim (other_number n p refusal.too_late e refl (omega arith)) (λ z. absurd z)))
        (other_number n p refusal.unreachable e refl (omega arith))
        (refusals_kept day A pass register (as_numbers areas) r.keeps (numbers_of work₀) (numbers_of journey₀) a b t n p room_work room_journey q)

    enquiry_claim : EnquiryClaim day register work₀ journey₀ a b t code work journey
    enquiry_claim =
        let e = enquired day (as_numbers areas) (numbers_of work₀) (numbers_of journey₀) a b t in
        let k = enquiry_keeps day (as_numbers areas) (numbers_of work₀) (numbers_of journey₀) a b t room_work room_journey in
        let w = x.promised.work_written in
        let j = x.promised.journey_written in
        let n : numbers_of journey ≡ e.journey = ap numbers_of j ∙ all_written e.journey journey₀ k.journey_long in
        record {
          not_refused = not_over e.answer refl x.promised.answer;
          answer = e.answer;
          told = x.promised.answer;
          means = rw (n, ← (network_kept day A pass register (as_numbers areas) r.keeps))
              (enquiry_means day (as_numbers areas) (numbers_of work₀) (numbers_of journey₀) a b t);
          work_past = past_written C e.work work₀ work x.work_bytes room_work k.work_long k.work_rest w;
          journey_past = past_written C e.journey journey₀ journey x.journey_bytes room_journey k.journey_long k.journey_rest j;
        }

-- the claim about runs on areas of bytes
pub byte_runs : (day : Day) (areas₀ : ByteAreas) (calls : List Call) (answers : List ℕ) (areas : ByteAreas)
    → ByteRun day areas₀ calls answers areas → ByteClaim day areas₀ calls answers areas
byte_runs day areas₀ calls answers areas r =
    let A = as_numbers areas₀ in
    let a = accepted_by day A r.building r.builds.promised.answer r.accepts in
    let counts = a.0 in
    let h = a.1 in
    let w = works_on day areas₀ counts h r.works [] (begins day areas₀ counts h r.building r.begun r.lent_bytes_lem r.builds) in
    let k = w.1 in
    record {
      answers_are = w.0;
      run_is = k.keeps.areas_are ∙ sym (run_agrees day A calls counts h).keeps.areas_are;
      held = held day A (building_is day A counts h).0 (register_of day calls).register (as_numbers areas) k.keeps;
      notices_past = k.notices_stay.past;
      graph_past = k.graph_stays.past;
      enquiries = enquiry_claim day areas₀ counts h (register_of day calls).register areas k;
    }

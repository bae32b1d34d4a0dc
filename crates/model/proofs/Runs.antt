-- Runs and the register: every call answers as the register does and leaves its areas, and the claim about whole runs.
-- Assumes nothing.
use Rattle.std.proofs.Common.{◌≡◌, ℕ, suc, ◌-◌, ◌*◌, ◌<◌, ◌≤◌, Bool, true, false, not, ◌&&◌, eqb, leb, ◌⊎◌, List, [], ◌∷◌, ◌++◌, length, drop, sym, refl, ap, ◌∙◌, ap₂, inl, inr, ⊎_elim, arith, length-append, take_at, drop_at, leb-false, leb-true}
use mathlib.Core.Bool.{false≢true}
use borrow.Author.Tests.{eqb-false, not-false}
use Rattle.refusals.specs.Answers.{Answer, accepted, refused, refuse_if, answering, Verdict, Passed, Refused}
use Rattle.timetable.specs.File.{stops, connections}
use Rattle.timetable.specs.Check.{file_verdict, counts_of}
use Rattle.timetable.specs.declared.Counts.{Counts}
use Rattle.refusals.specs.RefusalNumber as refusal
use Rattle.model.specs.Notices.{notice, room, notices_length, width, least_delay, most_posted, area_of, stands, stands_elsewhere, struck, entered, rows_verdict, Ascending, WellFormed}
use Rattle.model.specs.declared.Notice.{Notice}
use Rattle.model.specs.Network.{Network}
use Rattle.model.specs.Times.{primary_delay, network_of}
use Rattle.model.specs.Predecessors.{predecessors, nowhere, journey_in}
use Rattle.model.specs.Day.{Day, Areas, lent}
use Rattle.model.specs.Ready.{Ready}
use Rattle.model.specs.Drawn.{graph_length, graph_for, standing, network_by}
use Rattle.model.specs.Parts.{Part, Ask, asked_verdict, part_verdict, verdict, building_parts, call_parts, enquiry_room, posting_asks, withdrawal_asks, enquiry_asks, room_verdict, contents_verdict}
use Rattle.model.specs.Operations.{Outcome, outcome, written, concluded, built, changed, answered, searched, enquired, explained}
use Rattle.model.specs.Register.{Call, posting, withdrawal, Step, refuse, accept, corrected, without, register_step, Kept, kept}
use Rattle.model.specs.Runs.{called, Ran, ran, run_from, run_of, over_areas, register_of, Ascends, NoticesHeld, GraphHeld, Held, Claim}
use Rattle.model.proofs.ByCases.{by_bool, and_left, and_right}
use Rattle.model.proofs.Verdicts.{else_passed, by_refusal, accepted_not_refused}
use Rattle.model.proofs.Lists.{same_refl}
use Rattle.model.proofs.Areas.{length_area, rows_area, past_area}
use Rattle.model.proofs.Rows.{area_right}
use Rattle.model.proofs.Entering.{entered_fits, entered_formed, struck_formed}
use Rattle.model.proofs.Primary.{primary_same}
use Rattle.model.proofs.Times.{network_same}
use Rattle.model.proofs.Shown.{readable, arcs_lead}
use Rattle.model.proofs.Register.{arranged_on, arranged, count_arranged, same_arranged, has_arranged, elsewhere_arranged, corrected_arranged, new_arranged, struck_arranged}
use Rattle.model.proofs.Parts.{AskedWith, asked_number, call_chain, needs_passed, long_room, parts_number}
use Rattle.model.proofs.Ready.{graph_long, ready_by}
use Rattle.model.proofs.Why.{why_standing}

-- an empty register is well formed
pub none_formed : (C : ℕ) → WellFormed C []
none_formed C = record { ascending = tt; fits = omega arith }

-- an accepted building passes its checks, and leaves the areas of an empty register
pub building_is : (day : Day) (areas : Areas) (counts : Counts) → (built day areas).answer ≡ accepted counts
    → (file_verdict day.file ≡ Passed) × (built day areas ≡ outcome (accepted (counts_of day.file)) (written day areas []))
unfolding built part_verdict
building_is day areas counts h =
    let r = on (verdict day areas (building_parts day areas)) h in
    (((else_passed (file_verdict day.file) (room_verdict day areas)).0 r.0).0, r.1)
  where
    on : (v : Verdict) → (concluded v day areas (counts_of day.file) []).answer ≡ accepted counts
        → (v ≡ Passed) × (concluded v day areas (counts_of day.file) [] ≡ outcome (accepted (counts_of day.file)) (written day areas []))
    on Passed e = (refl, refl)
    on (Refused n p) e = absurd (let z : ◌≡◌ {A = ℕ} 0 1 = cc in omega arith)

-- the number of a building's refusal is not 0, and has 16 bits
pub building_number : (day : Day) (areas : Areas) (n p : ℕ) → (built day areas).answer ≡ refused n p → (0 < n) × (n < 65536)
unfolding built
building_number day areas n p h = on (verdict day areas (building_parts day areas)) refl h
  where
    on : (v : Verdict) → verdict day areas (building_parts day areas) ≡ v → (concluded v day areas (counts_of day.file) []).answer ≡ refused n p
        → (0 < n) × (n < 65536)
    on Passed q e = absurd (accepted_not_refused e)
    on (Refused m r) q e =
        let i : m ≡ n = cc in
        rw (← i)
        (parts_number day areas (building_parts day areas) m r
        (λ k g. (g.0, omega (arith, g.1)), (λ k g. (omega arith, omega arith), (λ k g. (omega arith, omega arith), tt))) q)

-- areas that began as areas₀ are those of a register: they are written for its rows, which may stand together
pub record Keeps (day : Day) (areas₀ areas : Areas) (register : List Notice) : Type 0 where
  pub areas_are : areas ≡ written day areas₀ (arranged register)
  pub formed : WellFormed (connections day.file) (arranged register)

-- a run's first answer is the building's
pub run_built : (day : Day) (areas : Areas) (calls : List Call) → (run_of day areas calls).building ≡ (built day areas).answer
unfolding run_of
run_built day areas calls = on (built day areas)
  where
    on : (o : Outcome Counts) → (run_from day o calls).building ≡ o.answer
    on o = by o.answer o.areas
      where
        by : (a : Answer Counts) (after : Areas) → (run_from day (outcome a after) calls).building ≡ a
        by (accepted counts) after = refl
        by (refused n p) after = refl

-- the register answers every call
pub length_kept : (C : ℕ) (register : List Notice) (calls : List Call) → length (kept C register calls).answers ≡ length calls
unfolding kept
length_kept C register [] = refl
length_kept C register (call ∷ calls) = ap suc (length_kept C (register_step C register call).register calls)

-- a call and the register's step agree: in the answer and in the areas
pub record Agree (day : Day) (areas₀ : Areas) (o : Outcome ℕ) (s : Step) : Type 0 where
  pub answer : o.answer ≡ s.answer
  pub keeps : Keeps day areas₀ o.areas s.register

-- a run and the register agree
pub record Agreed (day : Day) (areas₀ : Areas) (r : Ran) (k : Kept) : Type 0 where
  pub answers : r.answers ≡ k.answers
  pub keeps : Keeps day areas₀ r.areas k.register

-- a search is refused before it begins, or with 30
searched_refused : (v : Verdict) (net : Network) (a b t n p : ℕ) (work journey : List ℕ)
    → (searched v net a b t work journey).answer ≡ refused n p → (v ≡ Refused n p) ⊎ (n ≡ refusal.unreachable)
searched_refused (Refused m q) net a b t n p work journey h = inl cc
searched_refused Passed net a b t n p work journey h =
    let w = predecessors net a t in
    inr (on (nowhere net w a b) (journey_in net w a b) (w ++ drop net.connections work) h)
  where
    on : (none : Bool) (js work : List ℕ) → (answered none net t js work journey).answer ≡ refused n p → n ≡ refusal.unreachable
    on true js work h = cc
    on false js work h = absurd (let z : ◌≡◌ {A = ℕ} 0 1 = cc in omega arith)

-- well-formed notices are ascending by number
ascends : (C before : ℕ) (ns : List Notice) → Ascending C before ns → Ascends before ns
ascends C before [] h = tt
ascends C before (n ∷ ns) h = (h.0, ascends C n.number ns h.2)

no_both : (n : ℕ) → over_areas n ≡ false → over_areas n ≡ true → ⊥
no_both n h k = false≢true (sym h ∙ k)

above_zero : (n : ℕ) → (n ≡ 0 → ⊥) → 0 < n
above_zero n h = omega arith

module _ (day : Day) (areas₀ : Areas) where
  -- the notices that stand by areas that were written for them
  pub standing_written : (ns : List Notice) → standing (written day areas₀ ns) ≡ ns
  standing_written ns = rows_area ns (drop notices_length areas₀.notices)

  -- what is written over areas that were written leaves what lay past them
  pub written_again : (ns ms : List Notice) → WellFormed (connections day.file) ns
      → written day (written day areas₀ ns) ms ≡ written day areas₀ ms
  written_again ns ms w =
      ap₂ lent
      (ap (λ (t : List ℕ). area_of ms ++ t) (past_area ns (drop notices_length areas₀.notices) w.fits))
      (ap (λ (t : List ℕ). graph_for day ms ++ t) (drop_at (graph_for day ns) (drop (graph_length day.file) areas₀.graph) (graph_length day.file) (graph_long day ns)))

  module _ (ns : List Notice) (w : WellFormed (connections day.file) ns) where
    -- the areas of a well-formed register are refused with none of 21 to 24
    pub room_written : room_verdict day (written day areas₀ ns) ≡ Passed
    room_written =
        long_room day (written day areas₀ ns) (rw length-append (omega (arith, length_area ns w.fits))) (rw length-append (omega (arith, graph_long day ns)))

    pub contents_written : contents_verdict day (written day areas₀ ns) ≡ Passed
    unfolding part_verdict
    contents_written =
        rw (
          area_right (connections day.file) ns (drop notices_length areas₀.notices) w,
          standing_written ns,
          take_at (graph_for day ns) (drop (graph_length day.file) areas₀.graph) (graph_length day.file) (graph_long day ns),
          same_refl (graph_for day ns),
        )

    module _ (pass : file_verdict day.file ≡ Passed) where
      -- over them a call's further room and its own numbers decide
      pub written_chain : (further : List Part) (own : List Ask) → verdict day (written day areas₀ ns) further ≡ Passed
          → verdict day (written day areas₀ ns) (call_parts day (written day areas₀ ns) further own) ≡ asked_verdict ns own
      written_chain further own h =
          call_chain day (written day areas₀ ns) further own ∙ rw (pass, room_written, h, contents_written, standing_written ns)

      -- an enquiry with room for each connection is refused with 15, 16 or 30 only
      pub enquiry_refused : (work journey : List ℕ) (a b t n p : ℕ) → connections day.file ≤ length work → connections day.file ≤ length journey
          → (enquired day (written day areas₀ ns) work journey a b t).answer ≡ refused n p
          → AskedWith (enquiry_asks (stops day.file) a b t) n ⊎ (n ≡ refusal.unreachable)
      unfolding enquired
      enquiry_refused work journey a b t n p l k h =
          let areas = written day areas₀ ns in
          let own = enquiry_asks (stops day.file) a b t in
          let e = written_chain (enquiry_room day work journey) own (rw ((needs_passed day areas refusal.short_work work (connections day.file)).1 l, (needs_passed day areas refusal.short_journey journey (connections day.file)).1 k)) in
          ⊎_elim
          (λ r. inl (asked_number ns own n p r))
          (λ r. inr r)
          (searched_refused (asked_verdict ns own) (network_by day areas) a b t n p work journey (rw e at h))

      -- areas written for some notices are ready
      pub ready_written : Ready day (written day areas₀ ns)
      ready_written = ready_by day (written day areas₀ ns) pass room_written contents_written

  -- one call, on areas written for the register's rows
  module _ (register : List Notice) (w : WellFormed (connections day.file) (arranged register)) (pass : file_verdict day.file ≡ Passed) where
    abbrev rows : List Notice
    rows = arranged register

    changed_written : (own : List Ask) (n : ℕ) (now : List Notice → List Notice)
        → changed day (written day areas₀ (arranged register)) own n now
        ≡ concluded (asked_verdict (arranged register) own) day (written day areas₀ (arranged register)) n (now (arranged register))
    unfolding changed
    changed_written own n now = rw (written_chain rows w pass [] own refl, standing_written rows)

    refusal_agrees : (n k : ℕ) (ms : List Notice) → Agree day areas₀ (concluded (Refused k 0) day (written day areas₀ (arranged register)) n ms) (refuse register k)
    refusal_agrees n k ms = record { answer = refl; keeps = record { areas_are = refl; formed = w } }

    acceptance_agrees : (n : ℕ) (ms after : List Notice) → ms ≡ arranged after → WellFormed (connections day.file) ms
        → Agree day areas₀ (concluded Passed day (written day areas₀ (arranged register)) n ms) (accept after n)
    acceptance_agrees n ms after e v =
        record {
          answer = refl;
          keeps = record { areas_are = written_again rows ms w ∙ ap (written day areas₀) e; formed = rw (← e) v };
        }

    pub step : (call : Call) → Agree day areas₀ (called day (written day areas₀ (arranged register)) call) (register_step (connections day.file) register call)
    unfolding register_step
    step (posting n c d) =
        let C = connections day.file in
        let ms = entered (notice n c d) rows in
        let R : Verdict → Step → Type 0 = λ v s. Agree day areas₀ (concluded v day (written day areas₀ rows) n ms) s in
        let least = leb least_delay d in
        let most = leb d most_posted in
        rw (changed_written (posting_asks C n c d) n (entered (notice n c d)), elsewhere_arranged n c register, has_arranged n register, ← (count_arranged register))
        (by_refusal R (eqb n 0) (λ e. refusal_agrees n refusal.no_number ms)
        (λ (e₁ : eqb n 0 ≡ false). by_refusal R (leb C c) (λ e. refusal_agrees n refusal.unknown_connection ms)
        (λ (e₂ : leb C c ≡ false). by_refusal R (not (least && most)) (λ e. refusal_agrees n refusal.wrong_delay ms)
        (λ (e₃ : not (least && most) ≡ false). by_refusal R (stands_elsewhere n c rows) (λ e. refusal_agrees n refusal.stands_elsewhere ms)
        (λ (e₄ : stands_elsewhere n c rows ≡ false).
        let t = not-false (least && most) e₃ in
        let a : least_delay ≤ d = leb-true _ _ (and_left least most t) in
        let b : d ≤ most_posted = leb-true _ _ (and_right least most t) in
        let formed : not (stands n rows) && leb room (length rows) ≡ false → WellFormed C ms = λ e.
        entered_formed C (notice n c d) rows
        (above_zero n (eqb-false _ _ e₁), record { exists = leb-false _ _ e₂; least = a; most = omega arith })
        (entered_fits C (notice n c d) rows e w) w in
        ⊎_elim
        (λ (s : stands n rows ≡ true).
        let h = has_arranged n register ∙ s in
        let x = elsewhere_arranged n c register ∙ e₄ in
        rw s (acceptance_agrees n ms (corrected n d register) (corrected_arranged n c d C register w.ascending h x) (formed (rw s))))
        (λ (s : stands n rows ≡ false).
        rw s
        (by_refusal R (leb room (length rows)) (λ e. refusal_agrees n refusal.no_room ms)
        (λ (e₅ : leb room (length rows) ≡ false).
        acceptance_agrees n ms (register ++ (notice n c d ∷ [])) (new_arranged (notice n c d) register (has_arranged n register ∙ s)) (formed (rw (s, e₅))))))
        (by_bool (stands n rows)))))))
    step (withdrawal n) =
        let ms = struck n rows in
        let R : Verdict → Step → Type 0 = λ v s. Agree day areas₀ (concluded v day (written day areas₀ rows) n ms) s in
        rw (changed_written (withdrawal_asks n) n (struck n), has_arranged n register)
        (by_refusal R (eqb n 0) (λ e. refusal_agrees n refusal.no_number ms)
        (λ e₁. by_refusal R (not (stands n rows)) (λ e. refusal_agrees n refusal.not_standing ms)
        (λ e₂. acceptance_agrees n ms (without n register) (struck_arranged n register) (struck_formed (connections day.file) n rows w))))

  -- a run from any register whose rows may stand together
  pub runs : file_verdict day.file ≡ Passed → (calls : List Call) (register : List Notice) (areas : Areas) → Keeps day areas₀ areas register
      → Agreed day areas₀ (ran day areas calls) (kept (connections day.file) register calls)
  unfolding ran kept
  runs pass [] register areas k = record { answers = refl; keeps = k }
  runs pass (call ∷ calls) register areas k =
      let s : Agree day areas₀ (called day areas call) (register_step (connections day.file) register call) = rw k.areas_are (step register k.formed pass call) in
      let t = runs pass calls (register_step (connections day.file) register call).register (called day areas call).areas s.keeps in
      record {
        answers = ap₂ (λ (x : Answer ℕ) (xs : List (Answer ℕ)). x ∷ xs) s.answer t.answers;
        keeps = t.keeps;
      }

  -- what the claim says of the areas of a register
  module _ (pass : file_verdict day.file ≡ Passed) (register : List Notice) (areas : Areas) (k : Keeps day areas₀ areas register) where
    abbrev ns : List Notice
    ns = arranged register

    abbrev past_notices : List ℕ
    past_notices = drop notices_length areas₀.notices

    abbrev past_graph : List ℕ
    past_graph = drop (graph_length day.file) areas₀.graph

    abbrev count_is : length (arranged register) ≡ length register
    count_is = count_arranged register

    pub notices_kept : NoticesHeld register areas₀.notices areas.notices
    unfolding area_of
    notices_kept =
        let e : areas.notices ≡ area_of ns ++ past_notices = ap (λ (x : Areas). x.notices) k.areas_are in
        let f = k.formed.fits in
        let z : width * room - width * length ns ≡ width * (room - length register) = omega (arith, count_is) in
        record {
          ordered = ns;
          ascending = ascends (connections day.file) 0 ns k.formed.ascending;
          same_notices = λ n. same_arranged n register;
          as_many = count_is;
          fits = omega (arith, count_is);
          numbers = rw (e, take_at (area_of ns) past_notices notices_length (length_area ns f), z, count_is);
          past = rw e (past_area ns past_notices f);
        }

    network_is : network_of day (arranged register) ≡ network_of day register
    network_is = network_same day ns register (λ n. same_arranged n register)

    pub graph_kept : GraphHeld day register areas₀.graph areas.graph
    graph_kept =
        let e : areas.graph ≡ graph_for day ns ++ past_graph = ap (λ (x : Areas). x.graph) k.areas_are in
        record {
          entries = rw (e, take_at (graph_for day ns) past_graph (graph_length day.file) (graph_long day ns), network_is);
          past = rw e (drop_at (graph_for day ns) past_graph (graph_length day.file) (graph_long day ns));
        }

    pub ready_kept : Ready day areas
    ready_kept = rw k.areas_are (ready_written ns k.formed pass)

    -- an enquiry with room for each connection is refused with 15, 16 or 30 only
    pub refusals_kept : (work journey : List ℕ) (a b t n p : ℕ) → connections day.file ≤ length work → connections day.file ≤ length journey
        → (enquired day areas work journey a b t).answer ≡ refused n p
        → AskedWith (enquiry_asks (stops day.file) a b t) n ⊎ (n ≡ refusal.unreachable)
    refusals_kept work journey a b t n p l j e =
        enquiry_refused ns k.formed pass work journey a b t n p l j (rw k.areas_are at e)

    pub held : Held day areas₀ register areas
    unfolding over_areas
    held =
        record {
          notices_held = notices_kept;
          graph_held = graph_kept;
          arcs = arcs_lead day.file areas.graph (readable day areas ready_kept);
          enquiries = λ work journey a b t n p l j e over.
              ⊎_elim
              (⊎_elim
              (λ (q : n ≡ refusal.unknown_stop). no_both refusal.unknown_stop refl (rw q at over))
              (⊎_elim (λ (q : n ≡ refusal.too_late). no_both refusal.too_late refl (rw q at over)) (λ x. x)))
              (λ (q : n ≡ refusal.unreachable). no_both refusal.unreachable refl (rw q at over))
              (refusals_kept work journey a b t n p l j e);
        }

    -- the network of the notices that stand by the areas is that of the register's
    pub network_kept : network_by day areas ≡ network_of day register
    network_kept = rw (k.areas_are, standing_written ns) network_is

    -- why is refused for an unknown connection only, and tells the primary delay by the register's notices
    pub why_kept : (c : ℕ) → explained day.file areas.notices c
        ≡ answering (refuse_if (leb (connections day.file) c) refusal.unknown_connection 0) (primary_delay c register)
    why_kept c =
        let rows = ready_kept.rows in
        let checked = ap (rows_verdict (connections day.file)) rows.noted ∙ area_right (connections day.file) (standing areas) _ rows.rows in
        let stood : standing areas ≡ ns = rw k.areas_are (standing_written ns) in
        why_standing day.file areas.notices c pass rows.long checked
        ∙ ap (answering (refuse_if (leb (connections day.file) c) refusal.unknown_connection 0)) (ap (primary_delay c) stood ∙ primary_same c ns register (λ n. same_arranged n register))

module _ (day : Day) (areas₀ : Areas) (calls : List Call) (counts : Counts) (h : (built day areas₀).answer ≡ accepted counts) where
  -- the run from the areas that the building left
  pub after_building : Agreed day areas₀ (ran day (written day areas₀ []) calls) (register_of day calls)
  unfolding arranged_on
  after_building =
      runs day areas₀ (building_is day areas₀ counts h).0 calls [] (written day areas₀ []) (record { areas_are = refl; formed = none_formed (connections day.file) })

  -- after it the answers are the register's, and so are the areas
  pub run_agrees : Agreed day areas₀ (record { answers = (run_of day areas₀ calls).answers; areas = (run_of day areas₀ calls).areas }) (register_of day calls)
  unfolding run_of
  run_agrees = rw (building_is day areas₀ counts h).1 after_building

  -- the claim about whole runs
  pub whole_runs : Claim day areas₀ calls (run_of day areas₀ calls).answers (run_of day areas₀ calls).areas
  whole_runs =
      record {
        answers_are = run_agrees.answers;
        held = held day areas₀ (building_is day areas₀ counts h).0 (register_of day calls).register (run_of day areas₀ calls).areas run_agrees.keeps;
      }

  -- after any run an enquiry with room for each connection is refused with 15, 16 or 30 only
  pub enquiry_refusals : (work journey : List ℕ) (a b t n p : ℕ) → connections day.file ≤ length work → connections day.file ≤ length journey
      → (enquired day (run_of day areas₀ calls).areas work journey a b t).answer ≡ refused n p
      → AskedWith (enquiry_asks (stops day.file) a b t) n ⊎ (n ≡ refusal.unreachable)
  enquiry_refusals =
      refusals_kept day areas₀ (building_is day areas₀ counts h).0 (register_of day calls).register (run_of day areas₀ calls).areas run_agrees.keeps

  -- and why tells, of every connection of the timetable, the primary delay by the register's notices
  pub why_after : (c : ℕ) → explained day.file (run_of day areas₀ calls).areas.notices c
      ≡ answering (refuse_if (leb (connections day.file) c) refusal.unknown_connection 0) (primary_delay c (register_of day calls).register)
  why_after =
      why_kept day areas₀ (building_is day areas₀ counts h).0 (register_of day calls).register (run_of day areas₀ calls).areas run_agrees.keeps

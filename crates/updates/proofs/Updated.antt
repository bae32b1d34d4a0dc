-- An update of the fronts leaves what it leaves of the whole areas of bytes. Assumes nothing.
use Rattle.std.proofs.Common.{◌≡◌, ℕ, ◌+◌, ◌-◌, ◌≤◌, Bool, true, List, [], ◌++◌, length, take, drop, is_ok, Ok, Err, Result, sym, refl, ap, ◌∙◌, true≢false, arith, length-append, length-drop, drop_of_length-le, drop_at}
use lib.Seq.{drop-length, take-length}
use Rattle.numbers.specs.Numbers.{over_bytes}
use Rattle.numbers.proofs.Areas.{Bytes}
use Rattle.refusals.specs.Answers.{is_accepted, Verdict, Passed, Refused}
use Rattle.timetable.specs.File.{header_length, connections}
use Rattle.timetable.specs.Check.{file_verdict, counts_of}
use Rattle.timetable.proofs.Accepted.{accepted_iff}
use Rattle.model.specs.Notices.{notices_length, entered, struck}
use Rattle.model.specs.declared.Notice.{Notice}
use Rattle.model.specs.Day.{Day, Areas, lent}
use Rattle.model.specs.Parts.{part_verdict, verdict, building_parts, call_parts, posting_asks, withdrawal_asks}
use Rattle.model.specs.Operations.{concluded, built, changed}
use Rattle.model.proofs.Fronts.{behind, fronts, front_built, front_changed}
use Rattle.codes.specs.Encoded.{code_in, coded, coded_counts}
use Rattle.model.specs.Drawn.{graph_length, graph_for, standing, most_graph}
use Rattle.model.proofs.Verdicts.{else_passed}
use Rattle.model.proofs.Parts.{call_passed}
use Rattle.model.proofs.Ready.{graph_long}
use Rattle.fronts.specs.Fronts.{writes, lent_bytes, ReadFronts, WrittenBoth}
use Rattle.fronts.proofs.Fronts.{graph_covers, Changed, both_front, first_whole, second_whole}
use Rattle.coded_updates.specs.declared.Update.{Update}
use Rattle.coded_updates.specs.declared.Update.TheVariants.{Build, Post, Withdraw}
use Rattle.coded_updates.specs.Updated.{CodedOutcome, coded_outcome, coded_by, updated, UpdatedNumbers, OutcomeBytes}

-- the fronts of both areas
abbrev front : Areas → Areas
front areas = fronts areas notices_length most_graph

-- an outcome on the fronts, with what lies behind them
abbrev whole : Areas → CodedOutcome → CodedOutcome
whole areas o = coded_outcome o.code (behind o.areas (drop notices_length areas.notices) (drop most_graph areas.graph))

-- an update of the fronts is one of the areas
front_updated : (day : Day) (areas : Areas) (u : Update) → updated day areas u ≡ whole areas (updated day (front areas) u)
front_updated day areas Build =
    ap (coded_by coded_counts) (front_built day areas notices_length most_graph (omega arith) (graph_covers day.file areas.graph))
front_updated day areas (Post n) =
    ap (coded_by coded)
    (front_changed day areas notices_length most_graph (omega arith) (graph_covers day.file areas.graph)
    (posting_asks (connections day.file) n.number n.connection n.delay) n.number (entered n))
front_updated day areas (Withdraw n) =
    ap (coded_by coded)
    (front_changed day areas notices_length most_graph (omega arith) (graph_covers day.file areas.graph) (withdrawal_asks n) n (struck n))

-- what an outcome has changed of both areas, and that an accepted one is of a file that passes
pub record Concluded (day : Day) (areas : Areas) (accepted : Bool) (areas' : Areas) : Type 0 where
  pub file_passed : accepted ≡ true → file_verdict day.file ≡ Passed
  pub notices_changed : Changed (writes accepted (length areas'.notices)) areas.notices areas'.notices
  pub graph_changed : Changed (writes accepted (graph_length day.file)) areas.graph areas'.graph

module _ (day : Day) (areas areas' : Areas) (h : length areas'.notices ≡ length areas.notices) (h' : length areas'.graph ≡ length areas.graph) where
  concluded_changes : {A : Type 0} (v : Verdict) (value : A) (ns : List Notice) → (v ≡ Passed → file_verdict day.file ≡ Passed)
      → areas' ≡ (concluded v day areas value ns).areas → Concluded day areas (is_accepted (concluded v day areas value ns).answer) areas'
  concluded_changes (Refused n p) value ns k e =
      record {
        file_passed = λ x. absurd (true≢false (sym x));
        notices_changed = record { kept = h; within = omega arith; past = ap (λ (x : Areas). x.notices) e };
        graph_changed = record { kept = h'; within = omega arith; past = ap (λ (x : Areas). x.graph) e };
      }
  concluded_changes Passed value ns k e =
      let L = graph_length day.file in
      let g : areas'.graph ≡ graph_for day ns ++ drop L areas.graph = ap (λ (x : Areas). x.graph) e in
      let l : length areas'.graph ≡ length (graph_for day ns) + (length areas.graph - L) = ap length g ∙ simp (length-append, length-drop) in
      record {
        file_passed = λ x. k refl;
        notices_changed = record {
          kept = h;
          within = omega (arith, h);
          past = drop-length areas'.notices ∙ sym (drop_of_length-le areas.notices {i = length areas'.notices} (omega (arith, h)));
        };
        graph_changed = record {
          kept = h';
          within = omega (arith, l, h', graph_long day ns);
          past = ap (drop L) g ∙ drop_at (graph_for day ns) (drop L areas.graph) L (graph_long day ns);
        };
      }

  -- what an update has changed
  pub update_changes : (u : Update) {r : Result ℕ ℕ} → UpdatedNumbers day areas u r areas' → Concluded day areas (is_ok r) areas'
  unfolding built changed part_verdict
  update_changes Build e =
      rw e.told
      (concluded_changes (verdict day areas (building_parts day areas)) (counts_of day.file) []
      (λ p. ((else_passed (file_verdict day.file) _).0 p).0) (ap (λ (o : CodedOutcome). o.areas) e.outcome))
  update_changes (Post n) e =
      let own = posting_asks (connections day.file) n.number n.connection n.delay in
      rw e.told
      (concluded_changes (verdict day areas (call_parts day areas [] own)) n.number (entered n (standing areas))
      (λ p. (call_passed day areas [] own p).file) (ap (λ (o : CodedOutcome). o.areas) e.outcome))
  update_changes (Withdraw n) e =
      rw e.told
      (concluded_changes (verdict day areas (call_parts day areas [] (withdrawal_asks n))) n (struck n (standing areas))
      (λ p. (call_passed day areas [] (withdrawal_asks n) p).file) (ap (λ (o : CodedOutcome). o.areas) e.outcome))

-- both areas worked on in n and g, of which n' and g' are left
module _ {n g n' g' : List ℕ} (h : length n' ≡ length n) (h' : length g' ≡ length g) (day : Day) (u : Update) where
  -- an accepted update has a file with its header, and room for its graph
  pub write_room : {r : Result ℕ ℕ} → UpdatedNumbers day (lent n g) u r (lent n' g') → is_ok r ≡ true
      → (header_length ≤ length day.file) × (graph_length day.file ≤ length g')
  write_room {r} e a =
      let c = update_changes day (lent n g) (lent n' g') h h' u e in
      let t = (accepted_iff day.file).0 (c.file_passed a) in
      let l : writes (is_ok r) (graph_length day.file) ≤ length g = c.graph_changed.within in
      (omega (arith, t.long), omega (arith, c.graph_changed.kept, rw a at l))

  -- read before, and written back
  module _ {notices graph : List ℕ} (read : ReadFronts notices_length most_graph notices graph n g) (p : Bytes notices) (q : Bytes graph) where
    pub update_written : {r : Result ℕ ℕ} → UpdatedNumbers day (lent n g) u r (lent n' g') → {notices' graph' : List ℕ}
        → WrittenBoth (take (writes (is_ok r) (length n')) n') (take (writes (is_ok r) (graph_length day.file)) g') notices graph notices' graph'
        → OutcomeBytes (updated day (lent_bytes notices graph) u) notices graph (code_in r) notices' graph'
    update_written {r} e back =
        let areas : Areas = lent_bytes notices graph in
        let c = update_changes day (lent n g) (lent n' g') h h' u e in
        let o : updated day areas u ≡ whole areas (coded_outcome (code_in r) (lent n' g')) =
        front_updated day areas u
        ∙ ap (whole areas) (sym (e.outcome ∙ ap (λ (x : Areas). updated day x u) (both_front read))) in
        rw o (record {
          answer = refl;
          notices_written = first_whole read p c.notices_changed back.first_written;
          graph_written = second_whole read q c.graph_changed back.second_written;
        })

    pub accepted_written : {code : ℕ} → UpdatedNumbers day (lent n g) u (Ok code) (lent n' g') → {notices' graph' : List ℕ}
        → WrittenBoth n' (take (graph_length day.file) g') notices graph notices' graph'
        → OutcomeBytes (updated day (lent_bytes notices graph) u) notices graph code notices' graph'
    accepted_written e back =
        update_written e (record {
          first_written = back.first_written ∙ ap (λ (x : List ℕ). over_bytes x notices) (sym (take-length n'));
          second_written = back.second_written;
        })

    -- nothing is written after a refusal
    pub refused_unwritten : {code : ℕ} → UpdatedNumbers day (lent n g) u (Err code) (lent n' g')
        → OutcomeBytes (updated day (lent_bytes notices graph) u) notices graph code notices graph
    unfolding over_bytes
    refused_unwritten e = update_written e (record { first_written = refl; second_written = refl })

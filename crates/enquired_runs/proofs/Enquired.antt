-- A whole run with an enquiry after it. Assumes nothing.
use Rattle.std.proofs.Common.{◌≡◌, ℕ, List, sym, ap, ◌∙◌}
use Rattle.refusals.specs.Answers.{Answer, accepted}
use Rattle.timetable.specs.declared.Counts.{Counts}
use Rattle.model.specs.Day.{Day, Areas}
use Rattle.model.specs.Operations.{built, Enquiry, enquiry}
use Rattle.model.specs.declared.Arrival.{Arrival}
use Rattle.model.specs.Runs.{register_of}
use Rattle.model.proofs.Runs.{building_is, run_built, network_kept}
use Rattle.search.specs.Answered.{Answered}
use Rattle.run_calls.specs.Calls.{calls_worked}
use Rattle.runs.specs.Whole.{Whole}
use Rattle.runs.proofs.Building.{keeps_register}
use Rattle.enquired_runs.specs.Enquiring.{Enquiring}

-- an enquiry after a whole run
pub enquired_after : (day : Day) (areas₀ : Areas) (calls answers₀ work₀ journey₀ : List ℕ) (a b t : ℕ)
    {building : Answer Counts} {areas : Areas} {answers : List ℕ} → Whole day areas₀ calls answers₀ building areas answers
    → {answer : Answer Arrival} {work journey : List ℕ} → Answered day areas work₀ journey₀ a b t answer work journey
    → Enquiring day areas₀ calls answers₀ work₀ journey₀ a b t building areas answers (enquiry answer work journey)
enquired_after day areas₀ calls answers₀ work₀ journey₀ a b t {building} {areas} {answers} w {answer} {work} {journey} q =
    record {
      run = w;
      enquiry = q;
      claim = λ counts h.
          let k : (built day areas₀).answer ≡ accepted counts = sym (run_built day areas₀ (calls_worked calls answers₀)) ∙ sym w.building_is ∙ h in
          let register = (register_of day (calls_worked calls answers₀)).register in
          let c = w.claim counts h in
          record {
            run = c;
            enquiry = record {
              not_refused = λ l m n p e. c.held.enquiries work₀ journey₀ a b t n p l m (ap (λ (x : Enquiry). x.answer) (sym q.is) ∙ e);
              means = rw (network_kept day areas₀ (building_is day areas₀ counts k).0 register areas (keeps_register day areas₀ calls answers₀ areas answers counts k w.areas_are)) at q.means;
            };
          };
    }

-- A whole run from its two parts, the building and the calls worked after it. Assumes nothing.
use Rattle.std.proofs.Common.{◌≡◌, ℕ, ◌*◌, List, ◌++◌, length, drop, sym, ap, ◌∙◌}
use Rattle.refusals.specs.Answers.{accepted, refused}
use Rattle.timetable.specs.declared.Counts.{Counts}
use Rattle.model.specs.Day.{Day, Areas}
use Rattle.model.specs.Operations.{Outcome, outcome, built}
use Rattle.model.specs.Register.{Call}
use Rattle.model.specs.Runs.{ran, run_of, register_of}
use Rattle.model.proofs.Verdicts.{accepted_not_refused}
use Rattle.model.proofs.Runs.{Keeps, building_is, length_kept, run_agrees, held}
use Rattle.run_calls.specs.Calls.{answer_width, calls_worked, told_numbers}
use Rattle.run_calls.specs.Ended.{Ended}
use Rattle.runs.specs.Whole.{whole_run, Claimed, Whole}
use Rattle.run_calls.proofs.Turn.{length_told}

-- where the building is accepted, what the run of the definition leaves is as the claim says
module _ (day : Day) (areas₀ : Areas) (calls answers₀ : List ℕ) (areas : Areas) (answers : List ℕ) (counts : Counts) (h : (built day areas₀).answer ≡ accepted counts)
    (areas_are : areas ≡ (whole_run day areas₀ calls answers₀).areas) where
  abbrev worked : List Call
  worked = calls_worked calls answers₀

  pub keeps_register : Keeps day areas₀ areas (register_of day (calls_worked calls answers₀)).register
  keeps_register = rw areas_are (run_agrees day areas₀ worked counts h).keeps

  claimed : answers ≡ told_numbers (whole_run day areas₀ calls answers₀).answers
      ++ drop (length (told_numbers (whole_run day areas₀ calls answers₀).answers)) answers₀
      → Claimed day areas₀ (calls_worked calls answers₀) answers₀ areas answers
  claimed e =
      let register = register_of day worked in
      let l : length (told_numbers register.answers) ≡ answer_width * length worked =
      length_told register.answers ∙ ap (λ (m : ℕ). answer_width * m) (length_kept _ _ worked) in
      record {
        told = rw ((run_agrees day areas₀ worked counts h).answers, l) at e;
        held = held day areas₀ (building_is day areas₀ counts h).0 register.register areas keeps_register;
      }

module _ (day : Day) (areas₀ : Areas) (calls answers₀ : List ℕ) (areas : Areas) where
  -- where the building is refused, no call is worked
  pub not_built : (n p : ℕ) → outcome (refused n p) areas ≡ built day areas₀ → Whole day areas₀ calls answers₀ (refused n p) areas answers₀
  unfolding run_of told_numbers
  not_built n p e =
      record {
        building_is = rw (← e);
        areas_are = rw (← e);
        answers_are = rw (← e);
        claim = λ counts h. absurd (accepted_not_refused (sym h));
      }

  -- where it is accepted, all of them are, from the areas that it left
  pub all_worked : (counts : Counts) (areas₁ : Areas) (answers : List ℕ) → outcome (accepted counts) areas₁ ≡ built day areas₀
      → Ended (ran day areas₁ (calls_worked calls answers₀)) answers₀ areas answers
      → Whole day areas₀ calls answers₀ (accepted counts) areas answers
  unfolding run_of
  all_worked counts areas₁ answers e r =
      let areas_are : areas ≡ (whole_run day areas₀ calls answers₀).areas = rw (← e) r.areas_are in
      let answers_are : answers ≡ told_numbers (whole_run day areas₀ calls answers₀).answers ++ drop (length (told_numbers (whole_run day areas₀ calls answers₀).answers)) answers₀ =
      rw (← e) r.answers_are in
      record {
        building_is = rw (← e);
        areas_are = areas_are;
        answers_are = answers_are;
        claim = λ _ _. claimed day areas₀ calls answers₀ areas answers counts (sym (ap (λ (o : Outcome Counts). o.answer) e)) areas_are answers_are;
      }

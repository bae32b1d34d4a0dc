-- What a whole run promises: what the definition of the run gives, and the claim about whole runs. Assumes nothing.
use Rattle.std.specs.Prelude.{◌≡◌, List, ◌++◌, ℕ, ◌*◌, length, drop}
use Rattle.refusals.specs.Answers.{Answer, accepted}
use Rattle.timetable.specs.declared.Counts.{Counts}
use Rattle.model.specs.Day.{Day, Areas}
use Rattle.model.specs.Register.{Call}
use Rattle.model.specs.Runs.{Run, run_of, register_of, Held}
use Rattle.run_calls.specs.Calls.{answer_width, calls_worked, told_numbers}

-- the claim about a run of a day's calls, of what it left: areas that began as areas₀, and answers that began as answers₀
pub record Claimed (day : Day) (areas₀ : Areas) (calls : List Call) (answers₀ : List ℕ) (areas : Areas) (answers : List ℕ) : Type 0 where
  -- the numbers of each call's answer are those of the register's; what lies past them is as it was
  pub told : answers ≡ told_numbers (register_of day calls).answers ++ drop (answer_width * length calls) answers₀
  pub held : Held day areas₀ (register_of day calls).register areas

-- the run of the calls that are worked
abbrev pub whole_run : Day → Areas → List ℕ → List ℕ → Run
whole_run day areas₀ calls answers₀ = run_of day areas₀ (calls_worked calls answers₀)

pub record Whole (day : Day) (areas₀ : Areas) (calls answers₀ : List ℕ) (building : Answer Counts) (areas : Areas)
    (answers : List ℕ) : Type 0 where
  -- the building's answer
  pub building_is : building ≡ (whole_run day areas₀ calls answers₀).building
  -- the areas
  pub areas_are : areas ≡ (whole_run day areas₀ calls answers₀).areas
  -- the answers; what lies past them is as it was
  pub answers_are : answers
      ≡ told_numbers (whole_run day areas₀ calls answers₀).answers
      ++ drop (length (told_numbers (whole_run day areas₀ calls answers₀).answers)) answers₀
  -- where the building is accepted, the claim about whole runs
  pub claim : (counts : Counts) → building ≡ accepted counts
      → Claimed day areas₀ (calls_worked calls answers₀) answers₀ areas answers

-- What a whole run and an enquiry after it promise. Assumes nothing.
use Rattle.std.specs.Prelude.{◌≡◌, true, List, ℕ, ◌≤◌, length}
use Rattle.refusals.specs.Answers.{Answer, accepted, refused}
use Rattle.timetable.specs.File.{connections}
use Rattle.timetable.specs.declared.Counts.{Counts}
use Rattle.model.specs.declared.Notice.{Notice}
use Rattle.model.specs.Times.{network_of}
use Rattle.model.specs.Day.{Day, Areas}
use Rattle.model.specs.Operations.{Enquiry}
use Rattle.model.specs.Meaning.{Means}
use Rattle.model.specs.Runs.{over_areas, register_of}
use Rattle.search.specs.Answered.{Answered}
use Rattle.run_calls.specs.Calls.{calls_worked}
use Rattle.runs.specs.Whole.{Claimed, Whole}

-- an enquiry from stop a to stop b at time t after a run that left this register
pub record EnquiryClaimed (day : Day) (register : List Notice) (work₀ journey₀ : List ℕ) (a b t : ℕ) (e : Enquiry) : Type 0 where
  -- with room for each connection it is not refused over room, graph or notices
  pub not_refused : connections day.file ≤ length work₀ → connections day.file ≤ length journey₀
      → (n p : ℕ) → e.answer ≡ refused n p → over_areas n ≡ true → ⊥
  -- its answer is the best journey with the register's notices, and refusal 30 means that there is none
  pub means : Means (network_of day register) a b t journey₀ e.journey e.answer

-- the claim about a whole run with an enquiry after it
pub record ClaimedWhole (day : Day) (areas₀ : Areas) (calls answers₀ work₀ journey₀ : List ℕ) (a b t : ℕ)
    (areas : Areas) (answers : List ℕ) (e : Enquiry) : Type 0 where
  pub run : Claimed day areas₀ (calls_worked calls answers₀) answers₀ areas answers
  pub enquiry : EnquiryClaimed day (register_of day (calls_worked calls answers₀)).register work₀ journey₀ a b t e

pub record Enquiring (day : Day) (areas₀ : Areas) (calls answers₀ work₀ journey₀ : List ℕ) (a b t : ℕ)
    (building : Answer Counts) (areas : Areas) (answers : List ℕ) (e : Enquiry) : Type 0 where
  -- what the run leaves
  pub run : Whole day areas₀ calls answers₀ building areas answers
  -- what the enquiry answers, and its areas
  pub enquiry : Answered day areas work₀ journey₀ a b t e.answer e.work e.journey
  -- where the building is accepted, the claim
  pub claim : (counts : Counts) → building ≡ accepted counts
      → ClaimedWhole day areas₀ calls answers₀ work₀ journey₀ a b t areas answers e

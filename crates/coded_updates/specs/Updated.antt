-- Updates of both areas: what each gives, with its answer as a number for C, and what is left of areas of bytes.
-- Assumes nothing.
use Rattle.std.specs.Prelude.{◌≡◌, Bool, List, ℕ, Result, is_ok}
use Rattle.numbers.specs.Numbers.{over_bytes}
use Rattle.refusals.specs.Answers.{Answer, is_accepted}
use Rattle.model.specs.Day.{Day, Areas}
use Rattle.model.specs.Operations.{Outcome, built, posted, withdrawn}
use Rattle.codes.specs.Encoded.{code_in, coded, coded_counts}
use Rattle.coded_updates.specs.declared.Update.{Update}
use Rattle.coded_updates.specs.declared.Update.TheVariants.{Build, Post, Withdraw}

-- an outcome with its answer as a number
pub record CodedOutcome : Type 0 where
  pub code : ℕ
  pub areas : Areas

abbrev pub coded_outcome : ℕ → Areas → CodedOutcome
coded_outcome code areas = record { code = code; areas = areas }

abbrev pub coded_by : {A : Type 0} → (Answer A → ℕ) → Outcome A → CodedOutcome
coded_by coding o = coded_outcome (coding o.answer) o.areas

-- the outcome of an update
abbrev pub updated : Day → Areas → Update → CodedOutcome
updated day areas Build = coded_by coded_counts (built day areas)
updated day areas (Post n) = coded_by coded (posted day areas n.number n.connection n.delay)
updated day areas (Withdraw n) = coded_by coded (withdrawn day areas n)

-- whether an update is accepted
abbrev pub accepts : Day → Areas → Update → Bool
accepts day areas Build = is_accepted (built day areas).answer
accepts day areas (Post n) = is_accepted (posted day areas n.number n.connection n.delay).answer
accepts day areas (Withdraw n) = is_accepted (withdrawn day areas n).answer

-- an update of numbers: its outcome, and whether it was accepted
pub record UpdatedNumbers (day : Day) (areas₀ : Areas) (update : Update) (r : Result ℕ ℕ) (areas : Areas) : Type 0 where
  pub outcome : coded_outcome (code_in r) areas ≡ updated day areas₀ update
  pub told : is_ok r ≡ accepts day areas₀ update

-- an outcome on areas of bytes that held notices₀ and graph₀: its number is the result, its areas are written over the bytes
pub record OutcomeBytes (o : CodedOutcome) (notices₀ graph₀ : List ℕ) (r : ℕ) (notices graph : List ℕ) : Type 0 where
  pub answer : r ≡ o.code
  pub notices_written : notices ≡ over_bytes o.areas.notices notices₀
  pub graph_written : graph ≡ over_bytes o.areas.graph graph₀

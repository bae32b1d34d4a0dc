-- The answers in numbers for C: number + 65536 * value. The number is 0 for an accepted call, else the refusal's, with its
-- place for a value. Assumes nothing.
use Rattle.std.specs.Prelude.{ℕ, ◌+◌, ◌*◌, ℤ, pos, ◌*ℤ◌, Result, Ok, Err}
use Rattle.refusals.specs.Answers.{Answer, accepted, refused}
use Rattle.timetable.specs.declared.Counts.{Counts}
use Rattle.model.specs.declared.PrimaryDelay.{PrimaryDelay}
use Rattle.model.specs.declared.Arrival.{Arrival}

-- how many values a number of 16 bits has
abbrev pub number_size : ℕ
number_size = 65536

-- two numbers in one
abbrev pub pair : ℕ → ℕ → ℕ
pair low high = low + number_size * high

-- an answer whose accepted calls have these values
abbrev pub coded_with : {A : Type 0} → (A → ℕ) → Answer A → ℕ
coded_with value (accepted a) = pair 0 (value a)
coded_with value (refused n p) = pair n p

-- a code, of an accepted call or of a refusal
abbrev pub code_in : Result ℕ ℕ → ℕ
code_in (Ok code) = code
code_in (Err code) = code

-- a posting's and a withdrawal's answer: the notice's number
abbrev pub coded : Answer ℕ → ℕ
coded = coded_with (λ number. number)

-- a check's and a building's answer: how many stops and connections
abbrev pub counts_value : Counts → ℕ
counts_value counts = pair counts.stops counts.connections

abbrev pub coded_counts : Answer Counts → ℕ
coded_counts = coded_with counts_value

-- an enquiry's answer: the arrival and how many connections
abbrev pub arrival_value : Arrival → ℕ
arrival_value arrival = pair arrival.time arrival.connections

abbrev pub coded_arrival : Answer Arrival → ℕ
coded_arrival = coded_with arrival_value

-- a margin's answer: the minutes, signed
abbrev pub coded_margin : Answer ℤ → ℤ
coded_margin (accepted minutes) = pos number_size *ℤ minutes
coded_margin (refused n p) = pos (pair n p)

-- the answer of why: the delay and the notice that gives it
abbrev pub primary_value : PrimaryDelay → ℕ
primary_value primary = pair primary.delay primary.notice

abbrev pub coded_primary : Answer PrimaryDelay → ℕ
coded_primary = coded_with primary_value

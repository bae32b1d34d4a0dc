-- What an enquiry found, as far as it is written back. Assumes nothing.
use Rattle.std.specs.Prelude.{Bool, true, List, ℕ, ◌≤◌, eqb, length}
use Rattle.refusals.specs.Answers.{Answer, accepted, refused}
use Rattle.timetable.specs.File.{header_length, connections}
use Rattle.refusals.specs.RefusalNumber as refusal
use Rattle.model.specs.declared.Arrival.{Arrival}

-- whether an enquiry was searched for: it found a journey, or that there is none
abbrev pub is_searched : Answer Arrival → Bool
is_searched (accepted arrival) = true
is_searched (refused n p) = eqb n refusal.unreachable

-- how many connections the journey of an answer has
abbrev pub journey_length : Answer Arrival → ℕ
journey_length (accepted arrival) = arrival.connections
journey_length (refused n p) = 0

-- an enquiry that was searched for has a file with a header, and room for what it found
pub record FoundRoom (f w j : List ℕ) (answer : Answer Arrival) : Type 0 where
  pub header : header_length ≤ length f
  pub work_room : connections f ≤ length w
  pub journey_room : journey_length answer ≤ length j

-- What the desk says to an answer: the line of it. Assumes nothing.
use Rattle.std.specs.Prelude.{List, ℕ, take}
use Rattle.refusals.specs.Answers.{Answer, accepted, refused}
use Rattle.timetable.specs.declared.Counts.{Counts}
use Rattle.model.specs.declared.PrimaryDelay.{PrimaryDelay}
use Rattle.model.specs.declared.Arrival.{Arrival}
use Rattle.lines.specs.Lines.{Line, counts, arrives, refusal, why}

-- the line of an answer: what an accepted call says of its values, or the refusal
abbrev pub line_of : {A : Type 0} → (A → Line) → Answer A → Line
line_of say (accepted values) = say values
line_of say (refused n p) = refusal n p

-- the counts of a timetable
abbrev pub say_counts : Counts → Line
say_counts v = counts v.stops v.connections

-- an arrival and the connections of the journey, which stand at the front of its area
abbrev pub say_arrival : List ℕ → Arrival → Line
say_arrival journey v = arrives v.time (take v.connections journey)

-- connection c's primary delay and the notice that gives it
abbrev pub say_why : ℕ → PrimaryDelay → Line
say_why c p = why c p.delay p.notice

-- What an examination answers, in document 01's terms. Assumes nothing.
use Rattle.std.specs.Prelude.{ℕ, Result, Ok, Err}
use Rattle.refusals.specs.Answers.{Answer, accepted, refused, number_of}
use Rattle.refusals.specs.declared.Refusal.{Refusal}
use Rattle.timetable.specs.declared.Counts.{Counts}
use Rattle.timetable.specs.declared.Timetable.{Timetable}

-- the counts of the timetable, or the refusal's number and place
abbrev pub told_counts : Result Timetable (Refusal ℕ) → Answer Counts
told_counts (Ok timetable) = accepted (record { stops = timetable.stops; connections = timetable.connections })
told_counts (Err r) = refused (number_of r.0) r.1

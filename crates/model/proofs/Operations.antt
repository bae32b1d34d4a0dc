-- How an operation ends, by the verdicts of its parts. Assumes nothing.
use Rattle.std.proofs.Common.{◌≡◌, ℕ, List, []}
use Rattle.refusals.specs.Answers.{accepted, refused, or_else, Passed, Refused}
use Rattle.timetable.specs.Check.{file_verdict}
use Rattle.timetable.specs.Accepted.{Opened}
use Rattle.timetable.proofs.Accepted.{accepted_iff}
use Rattle.model.specs.declared.Notice.{Notice}
use Rattle.model.specs.Day.{Day, Areas}
use Rattle.model.specs.Drawn.{standing}
use Rattle.model.specs.Parts.{Ask, asked_verdict, part_verdict, room_verdict, open_verdict}
use Rattle.model.specs.Operations.{outcome, written, concluded, built, changed}
use Rattle.model.proofs.Parts.{call_open}

-- building
module _ (day : Day) (areas : Areas) where
  -- the file or the room is refused
  pub built_refused : (n p : ℕ) → or_else (file_verdict day.file) (room_verdict day areas) ≡ Refused n p → outcome (refused n p) areas ≡ built day areas
  unfolding built part_verdict
  built_refused n p h = rw h

  -- neither
  pub built_done : (s n : ℕ) (areas' : Areas) → Opened day.file s n → room_verdict day areas ≡ Passed → areas' ≡ written day areas []
      → outcome (accepted (record { stops = s; connections = n })) areas' ≡ built day areas
  unfolding built part_verdict
  built_done s n areas' o h w = rw (o.stops, o.connections, (accepted_iff day.file).1 o.timetable, h, w)

-- a call that changes the notices that stand
module _ (day : Day) (areas : Areas) (own : List Ask) (value : ℕ) (now : List Notice → List Notice) where
  -- its end
  changed_is : concluded (or_else (open_verdict day areas) (asked_verdict (standing areas) own)) day areas value (now (standing areas)) ≡ changed day areas own value now
  unfolding changed
  changed_is = rw (call_open day areas own)

  -- what is given or the areas are refused
  pub open_refuses : (n p : ℕ) → open_verdict day areas ≡ Refused n p → outcome (refused n p) areas ≡ changed day areas own value now
  open_refuses n p h = rw (← changed_is, h)

  -- the call itself is refused
  pub own_refuses : (n p : ℕ) → open_verdict day areas ≡ Passed → asked_verdict (standing areas) own ≡ Refused n p → outcome (refused n p) areas ≡ changed day areas own value now
  own_refuses n p a h = rw (← changed_is, a, h)

  -- nothing is refused
  pub accepts : (areas' : Areas) → open_verdict day areas ≡ Passed → asked_verdict (standing areas) own ≡ Passed → areas' ≡ written day areas (now (standing areas))
      → outcome (accepted value) areas' ≡ changed day areas own value now
  accepts areas' a h w = rw (← changed_is, a, h, w)

-- What a call answers, and how refusals are put in order. Assumes nothing.
use Rattle.std.specs.Prelude.{Bool, true, false, List, [], ◌∷◌, ℕ, zero, suc, Result, Ok, Err}
use Rattle.refusals.specs.RefusalNumber as refusal
use Rattle.refusals.specs.declared.Reason.{Reason}
use Rattle.refusals.specs.declared.Reason.TheVariants as R
use Rattle.refusals.specs.declared.Refusal.{Refusal}

-- whether a call goes on, or the refusal's number and place
pub data Verdict : Type 0 where
  Passed : Verdict
  Refused : ℕ → ℕ → Verdict

-- an answer in document 01's terms: the values of an accepted call, or a refusal's number and place
pub data Answer (A : Type 0) : Type 0 where
  accepted : A → Answer A
  refused : ℕ → ℕ → Answer A

-- whether an answer is one of an accepted call
abbrev pub is_accepted : {A : Type 0} → Answer A → Bool
is_accepted (accepted values) = true
is_accepted (refused n p) = false

-- refused with this number and place if the test holds
abbrev pub refuse_if : Bool → ℕ → ℕ → Verdict
refuse_if true n p = Refused n p
refuse_if false n p = Passed

-- whether a verdict passes
abbrev pub is_passed : Verdict → Bool
is_passed Passed = true
is_passed (Refused n p) = false

-- the first verdict, or the second where the first passes
abbrev pub or_else : Verdict → Verdict → Verdict
or_else Passed v = v
or_else (Refused n p) v = Refused n p

-- the first refusal in a list
abbrev pub first_refusal : List Verdict → Verdict
first_refusal [] = Passed
first_refusal (v ∷ vs) = or_else v (first_refusal vs)

-- the first refusal of v 0, v 1, .., v (n - 1)
unfoldable pub first_below : (ℕ → Verdict) → ℕ → Verdict
first_below v zero = Passed
first_below v (suc n) = or_else (first_below v n) (v n)

-- the answer of a call that has these values if it passes
abbrev pub answering : {A : Type 0} → Verdict → A → Answer A
answering Passed values = accepted values
answering (Refused n p) values = refused n p

-- the number of a reason
abbrev pub number_of : Reason → ℕ
number_of R.ShortFile = refusal.short_file
number_of R.WrongMark = refusal.wrong_mark
number_of R.WrongVersion = refusal.wrong_version
number_of R.WrongStopCount = refusal.wrong_stop_count
number_of R.WrongConnectionCount = refusal.wrong_connection_count
number_of R.WrongLength = refusal.wrong_length
number_of R.WrongTransferTime = refusal.wrong_transfer_time
number_of R.WrongStops = refusal.wrong_stops
number_of R.WrongTrip = refusal.wrong_trip
number_of R.WrongTimes = refusal.wrong_times
number_of R.WrongJoin = refusal.wrong_join
number_of R.NoNumber = refusal.no_number
number_of R.UnknownConnection = refusal.unknown_connection
number_of R.WrongDelay = refusal.wrong_delay
number_of R.UnknownStop = refusal.unknown_stop
number_of R.TooLate = refusal.too_late
number_of R.NotJoined = refusal.not_joined
number_of R.Unreadable = refusal.unreadable
number_of R.ShortNotices = refusal.short_notices
number_of R.ShortGraph = refusal.short_graph
number_of R.WrongRow = refusal.wrong_row
number_of R.WrongGraph = refusal.wrong_graph
number_of R.StandsElsewhere = refusal.stands_elsewhere
number_of R.NoRoom = refusal.no_room
number_of R.NotStanding = refusal.not_standing
number_of R.ShortWork = refusal.short_work
number_of R.ShortJourney = refusal.short_journey
number_of R.Unreachable = refusal.unreachable
number_of R.WrongTextRow = refusal.wrong_text_row
number_of R.ShortOutput = refusal.short_output

-- what a call tells, in document 01's terms
abbrev pub told : {A : Type 0} → Result A (Refusal ℕ) → Answer A
told (Ok values) = accepted values
told (Err r) = refused (number_of r.0) r.1

-- whether a call goes on after what one before it tells
abbrev pub verdict_of : {A : Type 0} → Result A (Refusal ℕ) → Verdict
verdict_of (Ok values) = Passed
verdict_of (Err r) = Refused (number_of r.0) r.1

-- A posting and a withdrawal: what each asks, what stands after it, and the number that it
-- answers. Assumes nothing.
use Rattle.std.specs.Prelude.{List, ℕ}
use Rattle.timetable.specs.File.{connections}
use Rattle.model.specs.Notices.{entered, struck}
use Rattle.model.specs.declared.Notice.{Notice}
use Rattle.model.specs.Day.{Day, Areas}
use Rattle.model.specs.Parts.{Ask, posting_asks, withdrawal_asks}
use Rattle.model.specs.Operations.{Outcome, changed}
use Rattle.calls.specs.declared.Call.{Call}
use Rattle.calls.specs.declared.Call.TheVariants.{Post, Withdraw}

abbrev pub asks_of : ℕ → Call → List Ask
asks_of C (Post n) = posting_asks C n.number n.connection n.delay
asks_of C (Withdraw n) = withdrawal_asks n

abbrev pub standing_after : Call → List Notice → List Notice
standing_after (Post n) ns = entered n ns
standing_after (Withdraw n) ns = struck n ns

abbrev pub number_in : Call → ℕ
number_in (Post n) = n.number
number_in (Withdraw n) = n

-- everything after it
abbrev pub called_by : Day → Areas → Call → Outcome ℕ
called_by day areas call = changed day areas (asks_of (connections day.file) call) (number_in call) (standing_after call)

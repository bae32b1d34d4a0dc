-- `heads` has the first of each board of the departures passed, and `part` their waiting entries. Assumes nothing.
use Rattle.std.proofs.Common.{ℕ, List, length}
use Rattle.model.specs.Shown.{shown}
use Rattle.lists.specs.Lists.{Departed}
use Rattle.lists.proofs.Awaiting.{Waited}
use Rattle.lists.proofs.fill_waiting.Given as goal

abbrev pub invariant-loop-c : goal.invariant-loop-c
invariant-loop-c l =
    let net = λ (g : List ℕ). shown l.timetable.file.now g in
    (g : List ℕ) → Departed (net g) (length l.departed) l.departed → Waited (net g) l.departed l.c-index l.heads l.part

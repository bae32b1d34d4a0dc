-- `run_calls::work_all` meets its contract. The loop's invariant: what the calls left give is what all of them gave. Assumes nothing.
use Rattle.model.specs.Day.{day_of, lent}
use Rattle.model.specs.Runs.{ran}
use Rattle.run_calls.specs.Calls.{calls_of}
use Rattle.run_calls.proofs.Turn.{Left}
use Rattle.run_calls.proofs.work_all.Given as goal

abbrev pub invariant-loop-k : goal.invariant-loop-k
invariant-loop-k l =
    Left (day_of l.file) l.calls l.n (ran (day_of l.file) (lent l.initial.notices l.initial.graph) (calls_of l.n l.calls)) l.initial.answers l.k (lent l.notices l.graph) l.answers

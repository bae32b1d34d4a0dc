-- A run's calls and answers as lists of numbers, those of the first call before those of the second. Assumes nothing.
use Rattle.std.specs.Prelude.{List, [], ◌∷◌, ℕ, zero, suc, ◌/◌, min, length, get_or, drop}
use Rattle.refusals.specs.Answers.{Answer}
use Rattle.model.specs.Register.{Call}
use Rattle.run_steps.specs.Step.{call_of, answer_number, answer_value}

-- how many numbers a call has, and how many an answer
abbrev pub call_width : ℕ
call_width = 4

abbrev pub answer_width : ℕ
answer_width = 2

-- the first k calls of a list of numbers
unfoldable pub calls_of : ℕ → List ℕ → List Call
calls_of zero xs = []
calls_of (suc k) xs = call_of (get_or xs 0 0) (get_or xs 1 0) (get_or xs 2 0) (get_or xs 3 0) ∷ calls_of k (drop call_width xs)

-- the calls that are worked: as many as both lists hold
abbrev pub calls_worked : List ℕ → List ℕ → List Call
calls_worked calls answers = calls_of (min (length calls / call_width) (length answers / answer_width)) calls

-- the numbers of a list of answers
unfoldable pub told_numbers : List (Answer ℕ) → List ℕ
told_numbers [] = []
told_numbers (a ∷ more) = answer_number a ∷ answer_value a ∷ told_numbers more

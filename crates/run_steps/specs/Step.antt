-- A call of a run and its answer as numbers: a call is four (0 for a posting, anything else for a withdrawal; the number, the
-- connection and the delay), an answer two (0 and the notice's number, or the refusal's number and place). Assumes nothing.
use Rattle.std.specs.Prelude.{cond, ℕ, eqb}
use Rattle.refusals.specs.Answers.{Answer, accepted, refused}
use Rattle.model.specs.Register.{Call, posting, withdrawal}

-- the call of these numbers; a withdrawal reads two of them
abbrev pub call_of : ℕ → ℕ → ℕ → ℕ → Call
call_of kind n c d = cond (eqb kind 0) (posting n c d) (withdrawal n)

-- the two numbers of an answer
abbrev pub answer_number : Answer ℕ → ℕ
answer_number (accepted n) = 0
answer_number (refused n p) = n

abbrev pub answer_value : Answer ℕ → ℕ
answer_value (accepted n) = n
answer_value (refused n p) = p

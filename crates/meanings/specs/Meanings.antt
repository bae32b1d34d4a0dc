-- What a first word and the numbers after it ask for. A word is the list of its bytes. Assumes nothing.
use Rattle.std.specs.Prelude.{cond, Option, Some, None, List, [], ◌∷◌, ℕ}
use Rattle.model.specs.Drawn.{same}
use Rattle.model.specs.Notices.{notice}
use Rattle.model.specs.declared.Change.{Change}
use Rattle.model.specs.declared.Request.{Request}
use Rattle.meanings.specs.declared.Command.{Command}
use Rattle.meanings.specs.declared.Command.TheVariants.{Post, Withdraw, Enquire, Margin, Why}
use Rattle.meanings.specs.declared.Numbers.{Numbers}
use Rattle.meanings.specs.declared.Numbers.TheVariants.{Zero, One, Two, Three}

-- the first words of the commands: p, w, q, m and why
abbrev pub word_p : List ℕ
word_p = 112 ∷ []

abbrev pub word_w : List ℕ
word_w = 119 ∷ []

abbrev pub word_q : List ℕ
word_q = 113 ∷ []

abbrev pub word_m : List ℕ
word_m = 109 ∷ []

abbrev pub word_why : List ℕ
word_why = 119 ∷ 104 ∷ 121 ∷ []

-- numbers and one more, if there are numbers and one more, and they are not three already
abbrev pub with_number : Option Numbers → Option ℕ → Option Numbers
with_number numbers None = None
with_number (Some Zero) (Some n) = Some (One n)
with_number (Some (One a)) (Some n) = Some (Two a n)
with_number (Some (Two a b)) (Some n) = Some (Three a b n)
with_number (Some (Three a b c)) (Some n) = None
with_number None (Some n) = None

-- an enquiry's numbers
abbrev pub request : ℕ → ℕ → ℕ → Request
request a b t = record { from = a; to = b; time = t }

-- a margin's numbers
abbrev pub change : ℕ → ℕ → Change
change c d = record { connection = c; next = d }

-- the command of a first word and the numbers after it, if there are numbers: w number; why connection; m connection connection;
-- p number connection delay; q from to time
unfoldable pub asked : List ℕ → Option Numbers → Option Command
asked word None = None
asked word (Some Zero) = None
asked word (Some (One a)) = cond (same word word_w) (Some (Withdraw a)) (cond (same word word_why) (Some (Why a)) None)
asked word (Some (Two a b)) = cond (same word word_m) (Some (Margin (change a b))) None
asked word (Some (Three a b c)) = cond (same word word_p) (Some (Post (notice a b c))) (cond (same word word_q) (Some (Enquire (request a b c))) None)

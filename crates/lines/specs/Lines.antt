-- The answer lines, each with the newline that ends it. Assumes nothing.
use Rattle.std.specs.Prelude.{List, [], ◌∷◌, ◌++◌, ℕ, suc, ℤ, pos, negsuc}
use Rattle.labels.specs.Labels.{labelled, number_line, pair_line}
use Rattle.arrivals.specs.Arrivals.{arrives_line}

-- "stops "
abbrev pub stops_label : List ℕ
stops_label = 115 ∷ 116 ∷ 111 ∷ 112 ∷ 115 ∷ 32 ∷ []

-- " rides "
abbrev pub connections_label : List ℕ
connections_label = 32 ∷ 114 ∷ 105 ∷ 100 ∷ 101 ∷ 115 ∷ 32 ∷ []

-- "posted "
abbrev pub posted_label : List ℕ
posted_label = 112 ∷ 111 ∷ 115 ∷ 116 ∷ 101 ∷ 100 ∷ 32 ∷ []

-- "withdrawn "
abbrev pub withdrawn_label : List ℕ
withdrawn_label = 119 ∷ 105 ∷ 116 ∷ 104 ∷ 100 ∷ 114 ∷ 97 ∷ 119 ∷ 110 ∷ 32 ∷ []

-- "no "
abbrev pub refusal_label : List ℕ
refusal_label = 110 ∷ 111 ∷ 32 ∷ []

-- " at "
abbrev pub place_label : List ℕ
place_label = 32 ∷ 97 ∷ 116 ∷ 32 ∷ []

-- "margin "
abbrev pub margin_label : List ℕ
margin_label = 109 ∷ 97 ∷ 114 ∷ 103 ∷ 105 ∷ 110 ∷ 32 ∷ []

-- "margin -"
abbrev pub minus_label : List ℕ
minus_label = 109 ∷ 97 ∷ 114 ∷ 103 ∷ 105 ∷ 110 ∷ 32 ∷ 45 ∷ []

-- "why "
abbrev pub why_label : List ℕ
why_label = 119 ∷ 104 ∷ 121 ∷ 32 ∷ []

-- " delay "
abbrev pub delay_label : List ℕ
delay_label = 32 ∷ 100 ∷ 101 ∷ 108 ∷ 97 ∷ 121 ∷ 32 ∷ []

-- " notice "
abbrev pub notice_label : List ℕ
notice_label = 32 ∷ 110 ∷ 111 ∷ 116 ∷ 105 ∷ 99 ∷ 101 ∷ 32 ∷ []

-- stops 3 rides 5
unfoldable pub counts_line : ℕ → ℕ → List ℕ
counts_line stops connections = pair_line stops_label stops connections_label connections

-- posted 7
unfoldable pub posted_line : ℕ → List ℕ
posted_line = number_line posted_label

-- withdrawn 7
unfoldable pub withdrawn_line : ℕ → List ℕ
withdrawn_line = number_line withdrawn_label

-- no 30 at 0
unfoldable pub refusal_line : ℕ → ℕ → List ℕ
refusal_line number place = pair_line refusal_label number place_label place

-- margin 4, margin -1
unfoldable pub margin_line : ℤ → List ℕ
margin_line (pos n) = number_line margin_label n
margin_line (negsuc n) = number_line minus_label (suc n)

-- why 1 delay 10 notice 7
unfoldable pub why_line : ℕ → ℕ → ℕ → List ℕ
why_line connection delay notice = labelled why_label connection ++ pair_line delay_label delay notice_label notice

-- an answer
pub data Line : Type 0 where
  counts : ℕ → ℕ → Line
  arrives : ℕ → List ℕ → Line
  posted : ℕ → Line
  withdrawn : ℕ → Line
  refusal : ℕ → ℕ → Line
  margin : ℤ → Line
  why : ℕ → ℕ → ℕ → Line

-- the line of an answer
unfoldable pub text_of : Line → List ℕ
text_of (counts stops connections) = counts_line stops connections
text_of (arrives time journey) = arrives_line time journey
text_of (posted number) = posted_line number
text_of (withdrawn number) = withdrawn_line number
text_of (refusal number place) = refusal_line number place
text_of (margin minutes) = margin_line minutes
text_of (why connection delay notice) = why_line connection delay notice

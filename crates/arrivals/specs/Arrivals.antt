-- The line of an arrival, with the newline that ends it. Assumes nothing.
use Rattle.std.specs.Prelude.{List, [], ◌∷◌, ◌++◌, ℕ}
use Rattle.decimals.specs.Bytes.{space}
use Rattle.labels.specs.Labels.{line_end, labelled}

-- "arrives "
abbrev pub arrives_label : List ℕ
arrives_label = 97 ∷ 114 ∷ 114 ∷ 105 ∷ 118 ∷ 101 ∷ 115 ∷ 32 ∷ []

-- " by"
abbrev pub by_label : List ℕ
by_label = 32 ∷ 98 ∷ 121 ∷ []

-- the connections of a journey, each after a space
unfoldable pub journey_text : List ℕ → List ℕ
journey_text [] = []
journey_text (c ∷ cs) = labelled (space ∷ []) c ++ journey_text cs

-- arrives 640 by 0 1
unfoldable pub arrives_line : ℕ → List ℕ → List ℕ
arrives_line time journey = labelled arrives_label time ++ by_label ++ journey_text journey ++ line_end

-- The words of a text. A text is the list of its bytes. Assumes nothing.
use Rattle.std.specs.Prelude.{List, ℕ}
use Rattle.decimals.specs.Bytes.{space}
use Rattle.cuts.specs.Cut.{pieces}

-- the words of a text: what stands before, between and after its spaces
abbrev pub words : List ℕ → List (List ℕ)
words = pieces space

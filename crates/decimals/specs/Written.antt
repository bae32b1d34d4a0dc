-- What the writing of a text leaves in the area that is lent for it. Assumes nothing.
use Rattle.std.specs.Prelude.{◌≡◌, List, ℕ, ◌+◌, length}
use Rattle.std.proofs.lemmas.List.Edits.{sets}

-- a text stands in an area from a place on, the rest is as before, and the answer is the place after it
pub record Written (answer : ℕ) (after before : List ℕ) (at : ℕ) (text : List ℕ) : Type 0 where
  pub next : answer ≡ at + length text
  pub stands : after ≡ sets before at text

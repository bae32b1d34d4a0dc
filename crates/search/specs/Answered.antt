-- What an enquiry promises: the answer and the areas afterwards, and what the answer means. Assumes nothing.
use Rattle.std.specs.Prelude.{◌≡◌, List, ℕ}
use Rattle.graph.specs.Answers.{Answer}
use Rattle.model.specs.Day.{Day, Areas}
use Rattle.model.specs.Drawn.{network_by}
use Rattle.model.specs.Operations.{enquiry, enquired}
use Rattle.model.specs.declared.Arrival.{Arrival}
use Rattle.model.specs.Meaning.{Means}

-- the answer to an enquiry from stop a to stop b at time t, with work and journey afterwards
pub record Answered (day : Day) (areas : Areas) (work₀ journey₀ : List ℕ) (a b t : ℕ)
    (answer : Answer Arrival) (work journey : List ℕ) : Type 0 where
  pub is : enquiry answer work journey ≡ enquired day areas work₀ journey₀ a b t
  pub means : Means (network_by day areas) a b t journey₀ journey answer

-- What an enquiry's answer means (demand 2). Assumes nothing.
use Rattle.std.specs.Prelude.{◌≡◌, List, ◌++◌, reverse, ℕ, length, drop}
use Rattle.refusals.specs.Answers.{Answer, accepted, refused}
use Rattle.refusals.specs.RefusalNumber as refusal
use Rattle.model.specs.Network.{Network}
use Rattle.model.specs.Journeys.{arrives, Best, Unreachable}
use Rattle.model.specs.declared.Arrival.{Arrival}

-- a journey that is valid, than which none arrives earlier, and which is the first in the order of those that arrive with it;
-- the answer tells when it arrives and how many connections it has, and the journey's area holds it in the order of travel
pub record Journey (net : Network) (a b t : ℕ) (journey₀ journey : List ℕ) (answer : Arrival) : Type 0 where
  pub connections : List ℕ
  pub best : Best net a b t connections
  pub time : answer.time ≡ arrives net t connections
  pub count : answer.connections ≡ length connections
  pub written : journey ≡ reverse connections ++ drop (length connections) journey₀

-- an answer is such a journey, and refusal 30 means that there is none
pub record Means (net : Network) (a b t : ℕ) (journey₀ journey : List ℕ) (answer : Answer Arrival) : Type 0 where
  pub answered : (v : Arrival) → answer ≡ accepted v → Journey net a b t journey₀ journey v
  pub refused_30 : (p : ℕ) → answer ≡ refused refusal.unreachable p → Unreachable net a b t

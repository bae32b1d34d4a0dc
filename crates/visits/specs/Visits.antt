-- One visit of the pass over the connections, in terms of lists. Assumes nothing.
use Rattle.std.specs.Prelude.{cond, List, ℕ, min, ltb, get_or, set}
use Rattle.model.specs.Least.{none}
use Rattle.model.specs.Network.{Network}
use Rattle.model.specs.Graph.{waiting, transfer}
use Rattle.settling.specs.Settled.{settled}

-- e is offered to x, which keeps the lower of e and what it has
unfoldable pub offered : List ℕ → ℕ → ℕ → List ℕ
offered work x e = set work x (min (get_or work x none) e)

-- what d has collected goes on along its waiting arc, and d gets its entry
unfoldable pub passed_on : Network → ℕ → ℕ → List ℕ → ℕ → List ℕ
passed_on net a t work d = set (offered work (waiting net d) (get_or work d none)) d (settled net a t work d)

-- the visit of d: then it is offered along its transfer arc if it is reached
unfoldable pub visited : Network → ℕ → ℕ → List ℕ → ℕ → List ℕ
visited net a t work d =
    cond (ltb (settled net a t work d) none) (offered (passed_on net a t work d) (transfer net d) d) (passed_on net a t work d)

-- the turn of a slot that holds x: a visit, unless x is none
unfoldable pub turned : Network → ℕ → ℕ → List ℕ → ℕ → List ℕ
turned net a t work x = cond (ltb x none) (visited net a t work x) work

-- What the checks of all transfer entries and of all lists tell of a timetable and a graph area. Assumes nothing.
use Rattle.std.specs.Prelude.{Bool, List, ℕ, ◌<◌}
use Rattle.model.specs.Shown.{shown}
use Rattle.links.specs.Telling.{Tells}
use Rattle.changes.specs.Changes.{ChangeLink}
use Rattle.certificate.specs.Lists.{ListsRight}

-- the check of the transfer entries of the first m connections
abbrev pub ChangesTold : List ℕ → List ℕ → List ℕ → List ℕ → ℕ → Bool → Type 0
ChangesTold f g marks lasts m r = Tells r ((c : ℕ) → c < m → ChangeLink (shown f g) g marks lasts c)

-- the check of the lists of a graph area
abbrev pub ListsTold : List ℕ → List ℕ → Bool → Type 0
ListsTold f g r = Tells r (ListsRight (shown f g) g)

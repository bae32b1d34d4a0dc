-- What the readers of the timetable and of the graph area ask and tell at a connection. Assumes nothing.
use Rattle.std.proofs.Common.{◌≡◌, ℕ, ◌≤◌, true, false, leb, List, sym, ◌∙◌, eq-eqb, ne_eqb}
use Rattle.timetable.specs.File.{from, stays_aboard}
use Rattle.model.specs.Graph.{departure_in}
use Rattle.model.specs.Journeys.{can_be_first}
use Rattle.model.specs.Shown.{shown, Readable}
use Rattle.settling.proofs.Steps.{aboard_positive}

-- whether d can be first, by its stop and its departure
module _ (f graph : List ℕ) (d a t x : ℕ) (e : x ≡ from f d) where
  -- at stop a it can if it leaves at t or later
  pub first_here : x ≡ a → (y : ℕ) → y ≡ departure_in graph d → leb t y ≡ can_be_first (shown f graph) a t d
  unfolding can_be_first
  first_here q y g = rw (eq-eqb (from f d) a (sym e ∙ q), g)

  -- elsewhere it cannot
  pub first_elsewhere : (x ≡ a → ⊥) → false ≡ can_be_first (shown f graph) a t d
  unfolding can_be_first
  first_elsewhere u = rw (ne_eqb (from f d) a (λ q. u (e ∙ q)))

-- a connection of areas that can be read that stays aboard is not the first
pub has_before : (f graph : List ℕ) (d : ℕ) → Readable f graph → stays_aboard f d ≡ true → 1 ≤ d
has_before f graph d r e = aboard_positive (shown f graph) d r.sound e

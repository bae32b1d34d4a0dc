-- A margin on the fronts is the one on the whole areas of bytes. Assumes nothing.
use Rattle.std.proofs.Common.{◌≡◌, ℕ, List, sym, ap, ◌∙◌, arith}
use Rattle.numbers.specs.Numbers.{numbers_of}
use Rattle.model.specs.Notices.{notices_length}
use Rattle.model.specs.Day.{Day, Areas, lent}
use Rattle.model.specs.Drawn.{most_graph}
use Rattle.model.specs.Operations.{margined}
use Rattle.model.proofs.Fronts.{front_margined}
use Rattle.fronts.specs.Fronts.{lent_bytes, ReadFronts}
use Rattle.fronts.proofs.Fronts.{graph_covers, both_front}

-- notices and graph read into n and g: a margin by these is one by the areas
pub margin_read : {notices graph n g : List ℕ} → ReadFronts notices_length most_graph notices graph n g
    → (day : Day) (c d : ℕ) → margined day (lent n g) c d ≡ margined day (lent_bytes notices graph) c d
margin_read {notices} {graph} read day c d =
    ap (λ (x : Areas). margined day x c d) (both_front read)
    ∙ sym (front_margined day (lent_bytes notices graph) notices_length most_graph (omega arith) (graph_covers day.file (numbers_of graph)) c d)

-- What reading a journey out of the predecessors gives. Assumes nothing.
use Rattle.std.specs.Prelude.{List, ℕ, take}
use Rattle.model.specs.Network.{Network}
use Rattle.model.specs.Predecessors.{nowhere, journey_in}
use Rattle.model.specs.Operations.{Enquiry, answered}

-- what reading a journey out of the predecessors in a work area answers
abbrev pub read_out : Network → List ℕ → List ℕ → ℕ → ℕ → ℕ → Enquiry
read_out net work journey a b t =
    let w = take net.connections work in
    answered (nowhere net w a b) net t (journey_in net w a b) work journey

-- What the operations' code knows of areas that were written. Assumes nothing.
use Rattle.std.proofs.Common.{◌≡◌, ℕ, List, ◌++◌, drop, ap, ◌∙◌, ap₂, arith, length-append}
use Rattle.timetable.specs.File.{connections}
use Rattle.model.specs.Notices.{notices_length, area_of, rows_of, WellFormed, Standing}
use Rattle.model.specs.declared.Notice.{Notice}
use Rattle.model.specs.Day.{Day, Areas, lent}
use Rattle.model.specs.Drawn.{graph_length, graph_for}
use Rattle.model.specs.Operations.{written}
use Rattle.model.proofs.Areas.{length_area, rows_area, past_area}

-- an area that was written for notices that may stand holds just these
pub written_standing : (C : ℕ) (ns : List Notice) (rest area : List ℕ) → area ≡ area_of ns ++ rest → WellFormed C ns
    → Standing C area × (rows_of area ≡ ns)
written_standing C ns rest area e w =
    let l = length_area ns w.fits in
    let n : rows_of area ≡ ns = rw e (rows_area ns rest) in
    (record { long = rw (e, length-append) (omega arith); rows = rw n w; noted = rw (n, e, past_area ns rest w.fits) }, n)

-- both areas, once the graph is drawn with the notices that stand by the area
pub both_written : (day : Day) (areas : Areas) (ns : List Notice) (notices graph : List ℕ) → WellFormed (connections day.file) ns
    → notices ≡ area_of ns ++ drop notices_length areas.notices
    → graph ≡ graph_for day (rows_of notices) ++ drop (graph_length day.file) areas.graph
    → lent notices graph ≡ written day areas ns
both_written day areas ns notices graph w e d =
    let n = (written_standing (connections day.file) ns _ notices e w).1 in
    ap₂ lent e (d ∙ ap (λ (ms : List Notice). graph_for day ms ++ drop (graph_length day.file) areas.graph) n)

-- Rows that stand with some connections stand by themselves. Assumes nothing.
use Rattle.std.proofs.Common.{ℕ, ◌≤◌, List, [], ◌∷◌, arith}
use Rattle.model.specs.Notices.{rows_of, Ascending, Standing}
use Rattle.model.specs.declared.Notice.{Notice}
use Rattle.notices.specs.Area.{past_all, RowsStand}

ascending_past : (C D before : ℕ) (ns : List Notice) → past_all ns ≤ D → Ascending C before ns → Ascending D before ns
unfolding past_all
ascending_past C D before [] h a = a
ascending_past C D before (n ∷ ns) h a =
    (a.0, record { exists = omega (arith, h); least = a.1.least; most = a.1.most }, ascending_past C D n.number ns (omega (arith, h)) a.2)

pub rows_stand : (C : ℕ) (area : List ℕ) → Standing C area → RowsStand area
rows_stand C area s =
    record {
      long = s.long;
      rows = record { ascending = ascending_past C (past_all (rows_of area)) 0 (rows_of area) (omega arith) s.rows.ascending; fits = s.rows.fits };
      noted = s.noted;
    }

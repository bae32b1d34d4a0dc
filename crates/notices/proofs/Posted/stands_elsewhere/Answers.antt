-- `notices::Posted::stands_elsewhere` meets its contract. Assumes nothing.
use Rattle.std.proofs.Common.{◌≡◌, ◌<◌, length, ◌∙◌, le-ltb, arith}
use Rattle.model.specs.Notices.{count_in, rows_of}
use Rattle.model.proofs.Areas.{count_rows}
use Rattle.model.proofs.Entering.{elsewhere_none}
use Rattle.notices.specs.Area.{past_all}
use Rattle.notices.specs.Numbered.{row_with}
use Rattle.notices.proofs.Finding.{stands_row, elsewhere_row}
use Rattle.notices.proofs.Posted.stands_elsewhere.Goals as goal

pub returns : goal.returns
unfolding rows_of
returns c =
    let a = c.args in
    let area = a.self.notices.now in
    let found = rw c.counted.ensures at c.in-Some.ensures in
    let k : row_with a.number (rows_of area) < count_in area = omega (arith, found.0, found.1) in
    rw (elsewhere_row (past_all (rows_of area)) 0 a.number a.connection 1 (count_in area) area a.self.standing.rows.ascending k, ← found.0)

pub returns-in_default : goal.returns-in_default
returns-in_default c =
    let a = c.args in
    let area = a.self.notices.now in
    let found : row_with a.number (rows_of area) ≡ count_in area = rw c.counted.ensures at c.in_default.ensures in
    let none = le-ltb (row_with a.number (rows_of area)) (length (rows_of area)) (omega (arith, count_rows area, found)) in
    rw (elsewhere_none a.number a.connection (rows_of area) (stands_row a.number (rows_of area) ∙ none))

-- `connection_tests::breaks_off` meets its contract. Assumes nothing.
use Rattle.std.proofs.Common.{eq-eqb, ne_eqb}
use Rattle.connection_tests.proofs.breaks_off.Goals as goal

pub returns-then-from-to : goal.returns-then-from-to
returns-then-from-to c =
    rw (← c.from.ensures, ← c.to.ensures, ne_eqb _ _ c.if-from-to.true)

pub returns : goal.returns
returns c =
    rw (← c.from.ensures, ← c.to.ensures, eq-eqb _ _ c.if-from-to.false, c.scheduled_departure.ensures, c.scheduled_arrival.ensures)

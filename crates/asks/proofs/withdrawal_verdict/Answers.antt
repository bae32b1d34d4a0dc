-- `asks::withdrawal_verdict` meets its contract. Assumes nothing.
use Rattle.std.proofs.Common.{not, ap, eq-eqb, ne_eqb}
use Rattle.asks.proofs.withdrawal_verdict.Goals as goal

pub returns-then-number-eq-NO_NUMBER : goal.returns-then-number-eq-NO_NUMBER
returns-then-number-eq-NO_NUMBER c =
    rw (eq-eqb c.args.number 0 c.if-number-eq-NO_NUMBER.true)

pub returns-then-not-is_standing : goal.returns-then-not-is_standing
returns-then-not-is_standing c =
    rw (ne_eqb c.args.number 0 c.if-number-eq-NO_NUMBER.false, ← c.is_standing.ensures, (ap not c.if-not-is_standing.true))

pub returns : goal.returns
returns c =
    rw (ne_eqb c.args.number 0 c.if-number-eq-NO_NUMBER.false, ← c.is_standing.ensures, (ap not c.if-not-is_standing.false))

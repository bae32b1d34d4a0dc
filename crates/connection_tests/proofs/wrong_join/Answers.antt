-- `connection_tests::wrong_join` meets its contract. Assumes nothing.
use Rattle.std.proofs.Common.{sym, ◌∙◌}
use Rattle.connection_tests.proofs.Next.{aboard_later, join_next, join_none}
use Rattle.connection_tests.proofs.wrong_join.Goals as goal

pub breaks_off-requires : goal.breaks_off-requires
breaks_off-requires c =
    let a = c.args in
    (aboard_later a.fields.file.now a.c (sym c.stays_aboard.ensures ∙ c.if-stays_aboard.true), c.requires)

pub returns-then-stays_aboard : goal.returns-then-stays_aboard
returns-then-stays_aboard c =
    let a = c.args in
    rw c.breaks_off.ensures (sym (join_next a.fields.file.now a.c (sym c.stays_aboard.ensures ∙ c.if-stays_aboard.true)))

pub returns : goal.returns
returns c =
    let a = c.args in
    sym (join_none a.fields.file.now a.c (sym c.stays_aboard.ensures ∙ c.if-stays_aboard.false))

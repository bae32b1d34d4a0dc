-- `updates::update_bytes` meets its contract. Assumes nothing.
use Rattle.std.proofs.Common.{rules, sym, ◌∙◌}
use Rattle.model.specs.Day.{day_of}
use Rattle.updates.proofs.Updated.{write_room, update_written}
use Rattle.updates.proofs.update_bytes.Goals as goal

pub write_back-requires : goal.write_back-requires
write_back-requires c a =
    write_room c.update_numbers-worked.auto.notices c.update_numbers-worked.auto.graph (day_of _) _ c.update_numbers-worked.ensures
    (sym c.is_ok-accepted.ensures.value ∙ a)

pub returns-in-Ok : goal.returns-in-Ok
returns-in-Ok c =
    rw c.in-Ok.is at
    (update_written c.update_numbers-worked.auto.notices c.update_numbers-worked.auto.graph (day_of _) _ c.read_fronts-n.ensures (search rules) (search rules)
    c.update_numbers-worked.ensures (rw c.is_ok-accepted.ensures.value at c.write_back.ensures))

pub returns-in-Err : goal.returns-in-Err
returns-in-Err c =
    rw c.in-Err.is at
    (update_written c.update_numbers-worked.auto.notices c.update_numbers-worked.auto.graph (day_of _) _ c.read_fronts-n.ensures (search rules) (search rules)
    c.update_numbers-worked.ensures (rw c.is_ok-accepted.ensures.value at c.write_back.ensures))

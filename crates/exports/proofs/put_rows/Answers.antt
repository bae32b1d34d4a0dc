-- `exports::put_rows` meets its contract: one row, or two where a trip begins. Assumes nothing.
use Rattle.std.proofs.Common.{sym, ◌∙◌}
use Rattle.decimals.proofs.Written.{then_written}
use Rattle.gtfs.proofs.Rows.{begin_text}
use Rattle.exports.proofs.Room.{first_fits, second_fits}
use Rattle.exports.proofs.put_rows.Goals as goal

pub put_row-next-requires : goal.put_row-next-requires
put_row-next-requires c =
    first_fits c.args.timetable.opened c.requires c.if-before-eq0.true c.start_row.ensures

pub put_row-requires : goal.put_row-requires
put_row-requires c =
    let s = c.start_row.ensures in
    second_fits c.args.timetable.opened c.requires c.if-before-eq0.true s c.end_row-last.ensures c.put_row-next.ensures.next c.put_row-next.auto.out

pub returns-then-before-eq0 : goal.returns-then-before-eq0
returns-then-before-eq0 c =
    let h = begin_text c.args.timetable.file.now c.args.c (sym c.requires.place ∙ c.if-before-eq0.true) in
    rw (h, ← c.start_row.ensures, ← c.end_row-last.ensures)
    (then_written c.put_row-next.ensures c.put_row.ensures)

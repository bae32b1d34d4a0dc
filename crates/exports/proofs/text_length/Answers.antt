-- `exports::text_length` meets its contract: the first line and the rows of the first c connections. Assumes nothing.
use Rattle.std.proofs.Common.{◌≡◌, ◌+◌, sym, arith}
use Rattle.timetable.specs.File.{connections}
use Rattle.gtfs.proofs.Rows.{length_all, length_next, up_to_short}
use Rattle.exports.proofs.text_length.Goals as goal

pub overflow_add-size : goal.overflow_add-size
overflow_add-size c =
    let f = c.args.timetable.file.now in
    let o = c.args.timetable.opened in
    let few = o.timetable.few in
    let short = up_to_short f o.timetable (c.loop-c.c + 1) (omega (arith, c.loop-c-test.true, o.connections)) in
    record { fits = omega (arith, c.loop-c.invariant.0, c.rows_length-size.ensures, length_next f c.loop-c.c, short) }

pub returns : goal.returns
returns c =
    let f = c.args.timetable.file.now in
    let e : c.loop-c.c ≡ connections f = omega (arith, c.args.timetable.opened.connections) in
    rw (c.loop-c.invariant.0, e) (sym (length_all f))

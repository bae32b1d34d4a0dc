-- `exports::export` meets its contract: the file's refusal, a refusal for want of room, or the text. Assumes nothing.
use Rattle.std.proofs.Common.{sym, arith}
use Rattle.gtfs.specs.Rows.{text_of}
use Rattle.gtfs.specs.Conversions.{exported}
use Rattle.gtfs.proofs.Conversions.{converted_refused, converted_short, converted_done}
use Rattle.std.proofs.lemmas.Result.{err_from_is_err_and}
use Rattle.exports.proofs.export.Goals as goal

pub returns-then-text-size : goal.returns-then-text-size
unfolding exported
returns-then-text-size c =
    let h = rw c.in_ok-timetable.ensures.of_the_file at c.text_length-size.ensures in
    converted_short (text_of c.args.file.now) c.args.text.now (sym c.in_ok-timetable.ensures.verdict) (omega (arith, h, c.if-text-size.true))

pub returns-in_err-timetable : goal.returns-in_err-timetable
unfolding exported
returns-in_err-timetable c =
    let p = err_from_is_err_and c.from_residual.result c.from_residual.ensures.1 in
    rw (p.1, p.2.0, p.2.1) (converted_refused (text_of c.args.file.now) c.args.text.now (sym c.in_err-timetable.ensures.verdict))

pub returns : goal.returns
unfolding exported
returns c =
    let e = c.in_ok-timetable.ensures.of_the_file in
    let h = rw e at c.text_length-size.ensures in
    rw (c.write_text.ensures, e, h)
    (converted_done (text_of c.args.file.now) c.args.text.now (sym c.in_ok-timetable.ensures.verdict) (omega (arith, h, c.if-text-size.false)))

-- `exports::write_text` meets its contract: the first line, then the rows of the first c connections. Assumes nothing.
use Rattle.std.proofs.Common.{◌≡◌, sym, ◌∙◌, arith}
use Rattle.decimals.proofs.Written.{then_written}
use Rattle.labels.proofs.Texts.{sets_front}
use Rattle.timetable.specs.File.{connections}
use Rattle.gtfs.specs.Rows.{text_of}
use Rattle.gtfs.proofs.Rows.{up_to_next, up_to_all}
use Rattle.file_rows.proofs.Positions.{last_next}
use Rattle.exports.proofs.write_text.Goals as goal

-- the first line fits
pub loop-c-preserved : goal.loop-c-preserved
loop-c-preserved c =
    let f = c.args.timetable.file.now in (
      c.put_rows-at.auto.text ∙ c.loop-c.invariant.0,
      rw (up_to_next f c.loop-c.c) (then_written c.loop-c.invariant.1 c.put_rows-at.ensures),
      c.next_position-position.ensures ∙ sym (last_next f c.loop-c.c),
    )

pub returns : goal.returns
returns c =
    let f = c.args.timetable.file.now in
    let e : c.loop-c.c ≡ connections f = omega (arith, c.args.timetable.opened.connections) in
    let w = then_written c.put_text-at.ensures c.loop-c.invariant.1 in
    w.stands ∙ rw (e, up_to_all f) (sets_front c.args.text.now (text_of f) c.requires)

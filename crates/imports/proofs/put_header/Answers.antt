-- `imports::put_header` meets its contract: the letters, the counts, then the transfer times. Assumes nothing.
use Rattle.std.proofs.Common.{[], ◌∷◌, length, arith}
use native.Mathlib.Nat.{sub-zero}
use Rattle.numbers.proofs.Areas.{length_numbers}
use Rattle.timetable.specs.File.{header_length}
use Rattle.timetable.specs.Check.{format_version}
use Rattle.gtfs.specs.Files.{mark}
use Rattle.numbers.proofs.Bytes.{numbers_placed}
use Rattle.imports.proofs.Making.{heading_written}
use Rattle.imports.proofs.put_header.Goals as goal

pub slice_bounds-put_text-end-2 : goal.slice_bounds-put_text-end-2
slice_bounds-put_text-end-2 c =
    omega (arith, c.requires.stops, length_numbers c.args.change.now)

pub returns : goal.returns
returns c =
    let a = c.args in
    heading_written a.file.now a.change.now a.s a.n c.put_text.ensures.stands
    (numbers_placed c.put_text.new.out (format_version ∷ a.s ∷ a.n ∷ []) c.write_area.new.bytes (length mark) header_length
    (omega arith) (omega (arith, c.put_text.auto.out, c.requires.room)) c.write_area.ensures)
    (rw sub-zero at c.put_text-2.ensures.stands)

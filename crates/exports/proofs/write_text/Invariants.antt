-- `exports::write_text` meets its contract: the first line, then the rows of the first c connections. Assumes nothing.
use Rattle.std.proofs.Common.{◌≡◌, length}
use Rattle.decimals.specs.Written.{Written}
use Rattle.gtfs.proofs.Rows.{rows_up_to}
use Rattle.file_rows.specs.Positions.{last_position}
use Rattle.exports.proofs.write_text.Given as goal

abbrev pub invariant-loop-c : goal.invariant-loop-c
invariant-loop-c l =
    (length l.text ≡ length l.initial.text)
    × Written l.at l.text l.initial.text l.initial.at (rows_up_to l.timetable.file.now l.c)
    × (l.position ≡ last_position l.timetable.file.now l.c)

-- `exports::text_length` meets its contract: the first line and the rows of the first c connections. Assumes nothing.
use Rattle.std.proofs.Common.{◌≡◌, ◌+◌, length}
use Rattle.gtfs.specs.StopTimes.{header_text}
use Rattle.gtfs.proofs.Rows.{rows_up_to}
use Rattle.file_rows.specs.Positions.{last_position}
use Rattle.exports.proofs.text_length.Given as goal

abbrev pub invariant-loop-c : goal.invariant-loop-c
invariant-loop-c l =
    (l.size ≡ length header_text + length (rows_up_to l.timetable.file.now l.c)) × (l.position ≡ last_position l.timetable.file.now l.c)

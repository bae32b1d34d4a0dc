-- A line of a text. Assumes nothing.
use Rattle.std.specs.Prelude.{cond, Option, None, List, ℕ, ◌+◌, length, drop}
use Rattle.decimals.specs.Bytes.{newline}
use Rattle.cuts.specs.Cut.{has, before}
use Rattle.cuts.specs.Columns.{with_next}
use Rattle.gtfs.specs.StopTimes.{row_of}
use Rattle.gtfs.specs.declared.StopTime.{StopTime}

-- the line of a text that starts at a place, if a newline ends it and it is a row
abbrev pub line_at : List ℕ → ℕ → Option (StopTime × ℕ)
line_at text at =
    let rest = drop at text in
    let line = before newline rest in
    cond (has newline rest) (with_next (row_of line) (at + length line + 1)) None

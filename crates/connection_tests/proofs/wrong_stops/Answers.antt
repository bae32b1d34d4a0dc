-- `connection_tests::wrong_stops` meets its contract. Assumes nothing.
use Rattle.std.proofs.Common.{◌<◌, ◌≤◌, arith, le-leb}
use borrow.Author.Tests.{lt-leb}
use Rattle.timetable.specs.File.{stops, from, to}
use Rattle.timetable.specs.Check.{wrong_stops}
use Rattle.connection_tests.proofs.wrong_stops.Goals as goal

pub returns-then-stops-start : goal.returns-then-stops-start
unfolding wrong_stops
returns-then-stops-start c =
    let a = c.args in
    let h : stops a.fields.file.now ≤ from a.fields.file.now a.c = omega arith in
    rw (le-leb _ _ h)

pub returns-then-stops-end : goal.returns-then-stops-end
unfolding wrong_stops
returns-then-stops-end c =
    let a = c.args in
    let g : from a.fields.file.now a.c < stops a.fields.file.now = omega arith in
    let h : stops a.fields.file.now ≤ to a.fields.file.now a.c = omega arith in
    rw (lt-leb _ _ g, le-leb _ _ h)

pub returns : goal.returns
unfolding wrong_stops
returns c =
    let a = c.args in
    let g : from a.fields.file.now a.c < stops a.fields.file.now = omega arith in
    let h : to a.fields.file.now a.c < stops a.fields.file.now = omega arith in
    rw (lt-leb _ _ g, lt-leb _ _ h, c.from-start.ensures, c.to-end.ensures)

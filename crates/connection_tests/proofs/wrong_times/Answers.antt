-- `connection_tests::wrong_times` meets its contract. Assumes nothing.
use Rattle.std.proofs.Common.{◌<◌, ◌≤◌, arith, le-leb}
use borrow.Author.Tests.{lt-leb}
use Rattle.timetable.specs.File.{scheduled_departure, scheduled_arrival}
use Rattle.timetable.specs.Check.{wrong_times}
use Rattle.connection_tests.proofs.wrong_times.Goals as goal

pub returns-then-arrival-departure : goal.returns-then-arrival-departure
unfolding wrong_times
returns-then-arrival-departure c =
    let a = c.args in
    let h : scheduled_arrival a.fields.file.now a.c ≤ scheduled_departure a.fields.file.now a.c = omega arith in
    rw (le-leb _ _ h)

pub returns : goal.returns
unfolding wrong_times
returns c =
    let a = c.args in
    let h : scheduled_departure a.fields.file.now a.c < scheduled_arrival a.fields.file.now a.c = omega arith in
    rw (lt-leb _ _ h, c.scheduled_arrival-arrival.ensures)

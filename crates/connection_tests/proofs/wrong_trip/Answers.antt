-- `connection_tests::wrong_trip` meets its contract. Assumes nothing.
use Rattle.std.proofs.Common.{sym, arith}
use Rattle.timetable.specs.Check.{wrong_trip}
use Rattle.connection_tests.proofs.Next.{trip_lower, trip_higher}
use Rattle.connection_tests.proofs.wrong_trip.Goals as goal

pub returns-then-c-eq0 : goal.returns-then-c-eq0
unfolding wrong_trip
returns-then-c-eq0 c =
    rw (c.trip-own.ensures, c.if-c-eq0.true)

pub returns-then-own-before : goal.returns-then-own-before
returns-then-own-before c =
    let a = c.args in
    sym (trip_lower a.fields.file.now a.c (omega arith) (omega (arith, c.trip-own.ensures, c.trip-before.ensures)))

pub returns : goal.returns
returns c =
    let a = c.args in
    rw (c.trip-own.ensures, c.trip-before.ensures) (sym (trip_higher a.fields.file.now a.c (omega arith) (omega (arith, c.trip-own.ensures, c.trip-before.ensures))))

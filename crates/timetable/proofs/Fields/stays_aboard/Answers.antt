-- `timetable::stays_aboard` meets its contract. Assumes nothing.
use Rattle.std.proofs.Common.{sym, arith}
use Rattle.timetable.specs.File.{stays_aboard}
use Rattle.timetable.proofs.Next.{stays_next}
use Rattle.timetable.proofs.Fields.stays_aboard.Goals as goal

pub returns-then-c-eq0 : goal.returns-then-c-eq0
unfolding stays_aboard
returns-then-c-eq0 c =
    rw c.if-c-eq0.true

pub returns : goal.returns
returns c =
    let a = c.args in
    rw (c.trip.ensures, c.trip-2.ensures) (sym (stays_next a.self.file.now a.c (omega arith)))

-- `requests::room_verdict` meets its contract. Assumes nothing.
use Rattle.std.proofs.Common.{sym, arith}
use Rattle.std.proofs.lemmas.Result.{err_from_is_err_and}
use Rattle.requests.proofs.Room.{room_refused, work_short, journey_short, room_passes}
use Rattle.requests.proofs.room_verdict.Goals as goal

pub returns-in_err-room_verdict : goal.returns-in_err-room_verdict
returns-in_err-room_verdict c =
    let p = err_from_is_err_and c.from_residual.result c.from_residual.ensures.1 in
    rw (p.1, p.2) (room_refused _ _ _ _ _ _ (sym c.in_err-room_verdict.ensures))

pub returns-then-work-n : goal.returns-then-work-n
returns-then-work-n c =
    work_short _ _ _ _ (sym c.in_ok-room_verdict.ensures)
    (λ h. omega (arith, c.args.timetable.opened.connections))

pub returns-then-journey-n : goal.returns-then-journey-n
returns-then-journey-n c =
    journey_short _ _ _ _ (sym c.in_ok-room_verdict.ensures)
    (omega (arith, c.args.timetable.opened.connections))
    (λ h. omega (arith, c.args.timetable.opened.connections))

pub returns : goal.returns
returns c =
    room_passes _ _ _ _ (sym c.in_ok-room_verdict.ensures)
    (omega (arith, c.args.timetable.opened.connections))
    (omega (arith, c.args.timetable.opened.connections))

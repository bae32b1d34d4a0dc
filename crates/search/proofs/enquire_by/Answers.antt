-- `search::enquire_by` meets its contract. Assumes nothing.
use Rattle.std.proofs.Common.{sym, arith}
use Rattle.model.proofs.Shown.{readable, readable_room}
use Rattle.requests.proofs.Room.{lent_room, lent_ready}
use Rattle.std.proofs.lemmas.Result.{err_from_is_err_and}
use Rattle.search.proofs.Enquiries.{enquired_lent, enquired_asked, enquired_found}
use Rattle.search.proofs.enquire_by.Goals as goal

pub returns-in_err-lent_verdict : goal.returns-in_err-lent_verdict
returns-in_err-lent_verdict c =
    let p = err_from_is_err_and c.from_residual.result c.from_residual.ensures.1 in
    rw (p.1, p.2) (enquired_lent _ _ _ _ c.args.timetable.opened.timetable _ _ _ _ _
    (sym c.in_err-lent_verdict.ensures))

pub returns-in_err-request_verdict : goal.returns-in_err-request_verdict
returns-in_err-request_verdict c =
    let p = err_from_is_err_and c.from_residual-in_err-request_verdict.result c.from_residual-in_err-request_verdict.ensures.1 in
    rw (p.1, p.2) (enquired_asked _ _ _ _ c.args.timetable.opened.timetable _ _ _ _ _ (sym c.in_ok-lent_verdict.ensures)
    (rw (← c.args.timetable.opened.stops) (sym c.in_err-request_verdict.ensures)))

pub invariant_of-shown : goal.invariant_of-shown
invariant_of-shown c =
    let known = readable _ _ (lent_ready _ _ _ _ c.args.timetable.opened.timetable (sym c.in_ok-lent_verdict.ensures)) in
    record { sound = known.sound; room = readable_room _ _ known }

pub invariant_of-find_journey : goal.invariant_of-find_journey
invariant_of-find_journey c =
    let known = readable _ _ (lent_ready _ _ _ _ c.args.timetable.opened.timetable (sym c.in_ok-lent_verdict.ensures)) in
    record { drawn = known.drawn }

pub find_journey-requires : goal.find_journey-requires
find_journey-requires c =
    let room = lent_room _ _ _ _ (sym c.in_ok-lent_verdict.ensures) in
    omega (arith, room.work_room, room.journey_room, c.args.timetable.opened.connections)

pub returns : goal.returns
returns c =
    enquired_found _ _ _ _ c.args.timetable.opened.timetable _ _ _ _ (sym c.in_ok-lent_verdict.ensures)
    (rw (← c.args.timetable.opened.stops) (sym c.in_ok-request_verdict.ensures)) c.find_journey.ensures

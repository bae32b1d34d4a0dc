-- `acceptance::check` meets its contract. Assumes nothing.
use Rattle.std.proofs.Common.{◌≤◌, length, sym}
use Rattle.timetable.specs.File.{header_length}
use Rattle.timetable.proofs.Accepted.{accepted_iff, room_for_header}
use Rattle.std.proofs.lemmas.Result.{err_from_is_err_and}
use Rattle.acceptance.proofs.check.Goals as goal

pub returns-in_err-file_verdict : goal.returns-in_err-file_verdict
returns-in_err-file_verdict c =
    let p = err_from_is_err_and c.from_residual.result c.from_residual.ensures.1 in
    rw (p.1, p.2, ← c.in_err-file_verdict.ensures)

pub stops-requires : goal.stops-requires
stops-requires c =
    let has-header : header_length ≤ length c.args.file.now = let f = c.args.file.now in
    room_for_header f ((accepted_iff f).0 (sym c.in_ok-file_verdict.ensures)) in
    has-header

pub connections-requires : goal.connections-requires
connections-requires c =
    let has-header : header_length ≤ length c.args.file.now = let f = c.args.file.now in
    room_for_header f ((accepted_iff f).0 (sym c.in_ok-file_verdict.ensures)) in
    has-header

pub returns : goal.returns
returns c =
    rw (← c.in_ok-file_verdict.ensures, c.stops.ensures, c.connections.ensures)

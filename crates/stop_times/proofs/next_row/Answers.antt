-- `stop_times::next_row` meets its contract: the columns one after the other, up to the first that cannot be read. Assumes nothing.
use Rattle.std.proofs.Common.{◌∙◌}
use Rattle.stop_times.proofs.Rows.{no_trip, no_arrival, no_departure, no_stop, no_sequence}
use Rattle.stop_times.proofs.Rows.{trip_read, arrival_read, departure_read, stop_read, sequence_read}
use Rattle.stop_times.proofs.next_row.Goals as goal

pub returns-in_err-trip : goal.returns-in_err-trip
returns-in_err-trip c =
    c.from_residual.ensures
    ∙ no_trip _ _ c.in_err-trip.ensures.read

pub returns-in_err-arrival : goal.returns-in_err-arrival
returns-in_err-arrival c =
    c.from_residual-in_err-arrival.ensures
    ∙ no_arrival _ _ _ c.in_err-arrival.ensures.read
    ∙ trip_read _ _ _ _ c.in_ok-trip.ensures.read

pub returns-in_err-departure : goal.returns-in_err-departure
returns-in_err-departure c =
    c.from_residual-in_err-departure.ensures
    ∙ no_departure _ _ _ _ c.in_err-departure.ensures.read
    ∙ arrival_read _ _ _ _ _ c.in_ok-arrival.ensures.read
    ∙ trip_read _ _ _ _ c.in_ok-trip.ensures.read

pub returns-in_err-stop : goal.returns-in_err-stop
returns-in_err-stop c =
    c.from_residual-in_err-stop.ensures
    ∙ no_stop _ _ _ _ _ c.in_err-stop.ensures.read
    ∙ departure_read _ _ _ _ _ _ c.in_ok-departure.ensures.read
    ∙ arrival_read _ _ _ _ _ c.in_ok-arrival.ensures.read
    ∙ trip_read _ _ _ _ c.in_ok-trip.ensures.read

pub returns-in_err-sequence : goal.returns-in_err-sequence
returns-in_err-sequence c =
    c.from_residual-in_err-sequence.ensures
    ∙ no_sequence _ _ _ _ _ _ c.in_err-sequence.ensures.read
    ∙ stop_read _ _ _ _ _ _ _ c.in_ok-stop.ensures.read
    ∙ departure_read _ _ _ _ _ _ c.in_ok-departure.ensures.read
    ∙ arrival_read _ _ _ _ _ c.in_ok-arrival.ensures.read
    ∙ trip_read _ _ _ _ c.in_ok-trip.ensures.read

pub returns : goal.returns
returns c =
    sequence_read _ _ _ _ _ _ _ _ c.in_ok-sequence.ensures.read
    ∙ stop_read _ _ _ _ _ _ _ c.in_ok-stop.ensures.read
    ∙ departure_read _ _ _ _ _ _ c.in_ok-departure.ensures.read
    ∙ arrival_read _ _ _ _ _ c.in_ok-arrival.ensures.read
    ∙ trip_read _ _ _ _ c.in_ok-trip.ensures.read

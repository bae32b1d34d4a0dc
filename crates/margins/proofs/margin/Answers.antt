-- `margins::margin` meets its contract. Assumes nothing.
use Rattle.std.proofs.Common.{sym}
use Rattle.model.proofs.Ready.{open_ready}
use Rattle.model.proofs.Shown.{readable, readable_room}
use Rattle.margins.proofs.Margins.{margined_refused, margined_shown, answered}
use Rattle.margins.proofs.margin.Goals as goal

pub returns-in_default : goal.returns-in_default
returns-in_default c =
    answered _ _ _ _ (margined_refused _ _ _ _ _ _ (sym (rw c.unwrap_err.ensures at c.examine-examined.ensures.verdict)))

pub invariant_of-shown : goal.invariant_of-shown
invariant_of-shown c =
    let known = readable _ _ (open_ready _ _ (sym c.in-Ok.ensures.verdict)) in
    record {
      sound = rw c.in-Ok.ensures.of_the_file known.sound;
      room = rw c.in-Ok.ensures.of_the_file (readable_room _ _ known);
    }

pub invariant_of-margin_by : goal.invariant_of-margin_by
invariant_of-margin_by c =
    let known = readable _ _ (open_ready _ _ (sym c.in-Ok.ensures.verdict)) in
    record { drawn = rw c.in-Ok.ensures.of_the_file known.drawn }

pub returns : goal.returns
returns c =
    answered _ _ _ _
    (margined_shown _ _ _ _ _ (sym c.in-Ok.ensures.verdict) (rw c.in-Ok.ensures.of_the_file at c.margin_by.ensures))

-- `enquired_runs::run_and_enquire` meets its contract. Assumes nothing.
use Rattle.enquired_runs.proofs.Enquired.{enquired_after}
use Rattle.enquired_runs.proofs.run_and_enquire.Goals as goal

pub returns : goal.returns
returns c =
    enquired_after _ _ _ _ _ _ _ _ _ c.run-building.ensures c.enquire-enquiry.ensures

-- `search::enquire` meets its contract. Assumes nothing.
use Rattle.std.proofs.Common.{sym}
use Rattle.search.proofs.Enquiries.{enquired_refused, answered_by}
use Rattle.search.proofs.enquire.Goals as goal

pub returns-in_default : goal.returns-in_default
returns-in_default c =
    answered_by _ _ _ _ _ _ _ _ _ _
    (enquired_refused _ _ _ _ _ _ _ _ _ (sym (rw c.unwrap_err.ensures at c.open-opened.ensures.verdict)))

pub returns : goal.returns
returns c =
    answered_by _ _ _ _ _ _ _ _ _ _ (rw c.in-Ok.ensures.of_the_file at c.enquire_by.ensures)

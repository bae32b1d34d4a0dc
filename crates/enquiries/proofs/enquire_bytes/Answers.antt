-- `enquiries::enquire_bytes` meets its contract: an enquiry on the fronts leaves what it leaves of the areas. Assumes nothing.
use Rattle.std.proofs.Common.{rules}
use Rattle.model.specs.Day.{day_of}
use Rattle.enquiries.proofs.Enquired.{found_room, enquiry_written}
use Rattle.enquiries.proofs.enquire_bytes.Goals as goal

pub write_found-requires : goal.write_found-requires
write_found-requires c =
    found_room (day_of _) _ _ _ _ _ _ _ _ _ c.enquire-answer.auto.work c.enquire-answer.auto.journey c.enquire-answer.ensures.is

pub returns : goal.returns
returns c =
    enquiry_written c.read_fronts-notices.ensures c.read_fronts-w.ensures (search rules) (search rules) (day_of _) _ _ _
    c.enquire-answer.auto.work c.enquire-answer.auto.journey c.enquire-answer.ensures.is c.write_found.ensures c.code.ensures

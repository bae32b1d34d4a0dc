-- What an enquiry found that was not searched for: nothing. Assumes nothing.
use Rattle.std.proofs.Common.{◌≡◌, false, refl, true≢false}
use Rattle.refusals.specs.Answers.{Answer, accepted, refused}
use Rattle.model.specs.declared.Arrival.{Arrival}
use Rattle.written_enquiries.specs.Found.{is_searched, journey_length}

-- an enquiry that was not searched for has no journey
pub unsearched : (answer : Answer Arrival) → is_searched answer ≡ false → journey_length answer ≡ 0
unsearched (accepted v) h = absurd (true≢false h)
unsearched (refused n p) h = refl

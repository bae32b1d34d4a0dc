-- Enquiries on areas of bytes. Assumes nothing.
use Rattle.std.specs.Prelude.{◌≡◌, List, ℕ}
use Rattle.numbers.specs.Numbers.{over_bytes}
use Rattle.model.specs.Operations.{Enquiry}
use Rattle.codes.specs.Encoded.{coded_arrival}

-- an enquiry on areas of bytes that held work₀ and journey₀: its answer's number is the result, its areas are written over the bytes
pub record EnquiryBytes (e : Enquiry) (work₀ journey₀ : List ℕ) (r : ℕ) (work journey : List ℕ) : Type 0 where
  pub answer : r ≡ coded_arrival e.answer
  pub work_written : work ≡ over_bytes e.work work₀
  pub journey_written : journey ≡ over_bytes e.journey journey₀

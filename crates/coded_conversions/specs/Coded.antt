-- The answers of import and export in numbers for C, and what is left in the output area. Assumes nothing.
use Rattle.std.specs.Prelude.{◌≡◌, List, ℕ, ◌%◌, ◌^◌}
use Rattle.refusals.specs.Answers.{Answer, accepted, refused}
use Rattle.codes.specs.Encoded.{pair}
use Rattle.gtfs.specs.Conversions.{Conversion}

-- how many values the value of an answer has: more than memory holds rows or bytes
abbrev pub value_size : ℕ
value_size = 2 ^ 48

-- an answer: how many bytes were written, or the refusal's number and place
abbrev pub coded_bytes : Answer ℕ → ℕ
coded_bytes (accepted bytes) = pair 0 (bytes % value_size)
coded_bytes (refused n p) = pair n (p % value_size)

-- a conversion: its number is the result, and its output stands in the area
pub record ConversionCoded (conversion : Conversion) (r : ℕ) (output : List ℕ) : Type 0 where
  pub answer : r ≡ coded_bytes conversion.answer
  pub written : output ≡ conversion.output

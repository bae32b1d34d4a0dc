-- A conversion whose answer is told as a number. Assumes nothing.
use Rattle.std.proofs.Common.{◌≡◌, ℕ, List, ap, ◌∙◌}
use Rattle.refusals.specs.Answers.{Answer}
use Rattle.gtfs.specs.Conversions.{Conversion, conversion}
use Rattle.coded_conversions.specs.Coded.{coded_bytes, ConversionCoded}

pub conversion_coded : {k : Conversion} {answer : Answer ℕ} {output : List ℕ} {r : ℕ} → conversion answer output ≡ k
    → r ≡ coded_bytes answer → ConversionCoded k r output
conversion_coded e d = record {
  answer = d ∙ ap (λ (k : Conversion). coded_bytes k.answer) e;
  written = ap (λ (k : Conversion). k.output) e;
}

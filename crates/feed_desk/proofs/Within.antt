-- What a conversion gives lies in its output area. Assumes nothing.
use Rattle.std.proofs.Common.{◌≡◌, ℕ, ◌≤◌, List, length, is_ok, Ok, Err, Result, MatchResult, arith, rules}
use Rattle.refusals.specs.declared.Refusal.{Refusal}
use Rattle.refusals.specs.Answers.{told}
use Rattle.timetable.specs.Check.{file_verdict}
use Rattle.gtfs.specs.Rows.{text_of}
use Rattle.gtfs.specs.Conversions.{conversion, import_verdict, imported_file, imported, exported}
use Rattle.gtfs.proofs.Conversions.{converted_fits}

module _ (before : List ℕ) {after : List ℕ} {r : Result ℕ (Refusal ℕ)} {n : ℕ} (is : r ≡ Ok n) (kept : length after ≡ length before) where
  -- an import's file
  pub imported_within : (text change : List ℕ) → conversion (told r) after ≡ imported text change before → n ≤ length after
  unfolding imported
  imported_within text change e =
      omega (arith, converted_fits (import_verdict text change) (imported_file text change) before e n is)

  -- an export's text
  pub exported_within : (f : List ℕ) → conversion (told r) after ≡ exported f before → n ≤ length after
  unfolding exported
  exported_within f e = omega (arith, converted_fits (file_verdict f) (text_of f) before e n is)

-- a value that `map_err` gives is the one it was given
pub value_kept : {A E D : Type 0} (r : Result A E) (mapped : Result A D) (Q : E → Type 0) {x : A}
    → MatchResult r (λ y. mapped ≡ Ok y) Q → is_ok mapped ≡ is_ok r → mapped ≡ Ok x → r ≡ Ok x
value_kept (Ok y) mapped Q h v is = search rules
value_kept (Err e) mapped Q h v is = search rules

-- What a call's result says of the verdict that it tells. Assumes nothing.
use Rattle.std.proofs.Common.{◌≡◌, ℕ, Bool, true, false, is_err, Ok, Err, Result, sym, refl, ap, ◌∙◌}
use Rattle.refusals.specs.declared.Refusal.{Refusal}
use Rattle.refusals.specs.Answers.{Verdict, Passed, is_passed, verdict_of}

-- an error does not pass
pub err_refused : {A : Type 0} (r : Result A (Refusal ℕ)) (v : Verdict) → is_err r ≡ true → verdict_of r ≡ v → is_passed v ≡ false
err_refused (Ok a) v e h = cc
err_refused (Err x) v e h = rw (← h)

-- and no other result is refused
pub ok_passed : {A : Type 0} (r : Result A (Refusal ℕ)) (v : Verdict) → is_err r ≡ false → verdict_of r ≡ v → v ≡ Passed
ok_passed (Ok a) v e h = sym h
ok_passed (Err x) v e h = cc

-- What a conversion answers and leaves: refused as its verdict says, for want of room, or done; and what one that is accepted tells.
-- Assumes nothing.
use Rattle.std.proofs.Common.{◌≡◌, ℕ, ◌<◌, ◌≤◌, List, ◌++◌, length, take, drop, Ok, Result, sym, refl, ap, ◌∙◌, arith, take_at, le-ltb, lt-ltb}
use Rattle.refusals.specs.Answers.{accepted, refused, or_else, answering, Verdict, Passed, Refused, told}
use Rattle.timetable.proofs.Tests.{below}
use Rattle.timetable.proofs.Order.{else_passed, rule}
use Rattle.refusals.specs.declared.Refusal.{Refusal}
use Rattle.refusals.specs.RefusalNumber as refusal
use Rattle.gtfs.specs.Conversions.{Conversion, conversion, written, room_verdict, converted}

module _ {v : Verdict} (bytes output : List ℕ) where
  pub converted_refused : {n p : ℕ} → v ≡ Refused n p → conversion (refused n p) output ≡ converted v bytes output
  converted_refused e = rw e

  pub converted_short : v ≡ Passed → length output < length bytes
      → conversion (refused refusal.short_output 0) output ≡ converted v bytes output
  converted_short e l = rw (e, lt-ltb (length output) (length bytes) l)

  pub converted_done : v ≡ Passed → length bytes ≤ length output
      → conversion (accepted (length bytes)) (bytes ++ drop (length bytes) output) ≡ converted v bytes output
  converted_done e l = rw (e, le-ltb (length output) (length bytes) l)

-- an answer that is accepted: its verdict passed, it tells how many bytes, and they stand at the front of the area
pub record Given (v : Verdict) (bytes output : List ℕ) (n : ℕ) : Type 0 where
  pub passed : v ≡ Passed
  pub count : length bytes ≡ n
  pub stands : take n (written v bytes output) ≡ bytes

given : (v : Verdict) (bytes output : List ℕ) (n : ℕ) → answering v (length bytes) ≡ accepted n → Given v bytes output n
given Passed bytes output n e =
    let d : length bytes ≡ n = cc in
    record { passed = refl; count = d; stands = take_at bytes (drop (length bytes) output) n d }
given (Refused m p) bytes output n e = absurd (let z : ◌≡◌ {A = ℕ} 0 1 = cc in omega arith)

module _ (verdict : Verdict) (bytes output : List ℕ) (n : ℕ) (e : (converted verdict bytes output).answer ≡ accepted n) where
  abbrev room : Verdict
  room = room_verdict bytes output

  abbrev whole : Given (or_else verdict room) bytes output n
  whole = given (or_else verdict room) bytes output n e

  both : (verdict ≡ Passed) × (room ≡ Passed)
  both = (else_passed verdict room).0 whole.passed

  pub accepted_passed : verdict ≡ Passed
  accepted_passed = both.0

  pub accepted_bytes : take n (converted verdict bytes output).output ≡ bytes
  accepted_bytes = whole.stands

  -- the bytes fit into the area
  pub accepted_fits : n ≤ length output
  accepted_fits =
      let r = (rule _ refusal.short_output 0 (below (length output) (length bytes))).keeps both.1 in
      let c = whole.count in
      omega arith

-- the same of an answer in code
pub converted_fits : (v : Verdict) (bytes output : List ℕ) {after : List ℕ} {r : Result ℕ (Refusal ℕ)}
    → conversion (told r) after ≡ converted v bytes output → (n : ℕ) → r ≡ Ok n → n ≤ length output
converted_fits v bytes output {after} {r} e n d =
    accepted_fits v bytes output n (sym (ap (λ (c : Conversion). c.answer) e) ∙ rw d)

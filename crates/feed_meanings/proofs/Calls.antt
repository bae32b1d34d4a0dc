-- A call of import or export is refused exactly as it has to be. Assumes nothing.
use Rattle.std.proofs.Common.{◌≡◌, ℕ, ◌≤◌, ltb, ◌↔◌, List, length, inl, inr, ⊎_elim, arith}
use Rattle.refusals.specs.Answers.{refused, or_else, answering, Verdict, Passed, Refused}
use Rattle.timetable.specs.Check.{file_verdict}
use Rattle.timetable.proofs.Tests.{below}
use Rattle.timetable.proofs.Order.{else_refused, Rule, rule, found}
use Rattle.timetable.proofs.Accepted.{accepted_iff}
use Rattle.timetable.proofs.Refusals.{refused_iff}
use Rattle.refusals.specs.RefusalNumber as refusal
use Rattle.gtfs.specs.Rows.{text_of}
use Rattle.gtfs.specs.Conversions.{room_verdict, converted, imported_file, import_verdict, imported, exported}
use Rattle.feed_meanings.specs.Calls.{CallRefusal, wrong_input, short_output_lem, ImportRefusal, ExportRefusal}
use Rattle.feed_meanings.proofs.Imports.{wrong_import_iff, good_import_iff}

-- the verdict of an answer that refuses
answer_refused : (v : Verdict) (b n p : ℕ) → (answering v b ≡ refused n p) ↔ (v ≡ Refused n p)
answer_refused Passed b n p = (
  λ h. absurd (let z : ◌≡◌ {A = ℕ} 0 1 = cc in omega arith),
  λ h. absurd (let z : ◌≡◌ {A = ℕ} 0 1 = cc in omega arith),
)
answer_refused (Refused m q) b n p = (λ h. (cc), λ h. (cc))

-- a conversion, by what its verdict means
module _ {Good : Type 0} {Wrong : ℕ → ℕ → Type 0} (v : Verdict) (bytes output : List ℕ)
    (good : (v ≡ Passed) ↔ Good) (wrong : (n p : ℕ) → (v ≡ Refused n p) ↔ Wrong n p) where
  room : Rule (room_verdict bytes output) refusal.short_output 0 (length bytes ≤ length output)
  room = rule (ltb (length output) (length bytes)) refusal.short_output 0 (below (length output) (length bytes))

  refusal_is : {n p : ℕ} → or_else v (room_verdict bytes output) ≡ Refused n p → CallRefusal Good Wrong bytes output n p
  refusal_is {n} {p} h =
      ⊎_elim
      (λ e. wrong_input ((wrong n p).0 e))
      (λ e. found (CallRefusal Good Wrong bytes output) room (λ s. short_output_lem (good.0 e.0) (omega arith)) e.1)
      ((else_refused v (room_verdict bytes output) n p).0 h)

  is_refusal : {n p : ℕ} → CallRefusal Good Wrong bytes output n p → or_else v (room_verdict bytes output) ≡ Refused n p
  is_refusal {n} {p} (wrong_input w) = (else_refused v (room_verdict bytes output) n p).1 (inl ((wrong n p).1 w))
  is_refusal (short_output_lem g s) =
      (else_refused v (room_verdict bytes output) refusal.short_output 0).1 (inr (good.1 g, room.finds (λ l. omega arith)))

  call_refused : (n p : ℕ) → ((converted v bytes output).answer ≡ refused n p) ↔ CallRefusal Good Wrong bytes output n p
  call_refused n p =
      let a = answer_refused (or_else v (room_verdict bytes output)) (length bytes) n p in
      (λ h. refusal_is (a.0 h), λ h. a.1 (is_refusal h))

pub import_refused_iff : (text change output : List ℕ) (n p : ℕ)
    → ((imported text change output).answer ≡ refused n p) ↔ ImportRefusal text change output n p
unfolding imported
import_refused_iff text change output n p =
    call_refused
    (import_verdict text change)
    (imported_file text change)
    output
    (good_import_iff text change)
    (wrong_import_iff text change)
    n
    p

pub export_refused_iff : (f output : List ℕ) (n p : ℕ) → ((exported f output).answer ≡ refused n p) ↔ ExportRefusal f output n p
unfolding exported
export_refused_iff f output n p = call_refused (file_verdict f) (text_of f) output (accepted_iff f) (refused_iff f) n p

-- Why a connection is late: what it gives that nothing is refused, what an answer means, which numbers it refuses with, and that the front
-- of the notice area decides. Assumes nothing.
use Rattle.std.proofs.Common.{◌≡◌, ℕ, ◌<◌, ◌≤◌, ltb, leb, ◌⊎◌, List, length, take, drop, sym, ap, ◌∙◌, inl, inr, ⊎_elim, take-append-drop, ltb-false, le-ltb, leb-false}
use Rattle.refusals.specs.Answers.{accepted, refused, refuse_if, or_else, answering, Passed}
use Rattle.timetable.specs.File.{connections}
use Rattle.timetable.specs.Accepted.{Timetable}
use Rattle.timetable.specs.Check.{file_verdict}
use Rattle.timetable.proofs.Accepted.{accepted_iff}
use Rattle.timetable.proofs.Refusals.{refused_iff}
use Rattle.refusals.specs.RefusalNumber as refusal
use Rattle.model.specs.declared.PrimaryDelay.{PrimaryDelay}
use Rattle.model.specs.Notices.{notices_length, rows_of, rows_verdict, Standing}
use Rattle.model.specs.Times.{primary_delay}
use Rattle.model.specs.Operations.{why_verdict, explained}
use Rattle.model.proofs.Verdicts.{else_passed, else_refused, if_passed, if_refused, answering_accepted, answering_refused}
use Rattle.model.proofs.Rows.{rows_place, rows_verdict_lem, rows_same}
use Rattle.model.proofs.Primary.{CauseOf, cause_of}
use Rattle.model.proofs.Parts.{file_number}
use Rattle.model.proofs.Ready.{rows_passed}
use Rattle.model.proofs.Fronts.{Covers, covers_decides, else_same, answering_same}

-- 21, 23 and 13 have passed
pub record WhyPassed (C : ℕ) (notices : List ℕ) (c : ℕ) : Type 0 where
  pub checked : rows_verdict C notices ≡ Passed
  pub rows : Standing C notices
  pub exists : c < C

pub why_passed : (C : ℕ) (notices : List ℕ) (c : ℕ) → why_verdict C notices c ≡ Passed → WhyPassed C notices c
unfolding why_verdict
why_passed C notices c h =
    let a = (else_passed (refuse_if (ltb (length notices) notices_length) refusal.short_notices 0) _).0 h in
    let b = (else_passed (rows_verdict C notices) _).0 a.1 in
    let l = ltb-false (length notices) notices_length ((if_passed _ refusal.short_notices 0).0 a.0) in
    record {
      checked = b.0;
      rows = rows_passed C notices l b.0;
      exists = leb-false C c ((if_passed _ refusal.unknown_connection 0).0 b.1);
    }

-- an answer: the timetable is accepted, the notices may stand, the connection is one of the timetable's, and the primary delay and its
-- notice are told
pub record WhyMeans (f notices : List ℕ) (c : ℕ) (p : PrimaryDelay) : Type 0 where
  pub timetable : Timetable f
  pub rows : Standing (connections f) notices
  pub exists : c < connections f
  pub cause : CauseOf c (rows_of notices) p

pub why_means : (f notices : List ℕ) (c : ℕ) (p : PrimaryDelay) → explained f notices c ≡ accepted p → WhyMeans f notices c p
unfolding explained
why_means f notices c p h =
    let v = or_else (file_verdict f) (why_verdict (connections f) notices c) in
    let a = answering_accepted v p (primary_delay c (rows_of notices)) (sym h) in
    let b = (else_passed (file_verdict f) (why_verdict (connections f) notices c)).0 a.0 in
    let w = why_passed (connections f) notices c b.1 in
    record {
      timetable = (accepted_iff f).0 b.0;
      rows = w.rows;
      exists = w.exists;
      cause = rw a.1 (cause_of c (connections f) 0 (rows_of notices) w.rows.rows.ascending);
    }

-- it refuses with 1 to 11, 21, 23 and 13 only
abbrev pub WhyRefuses : ℕ → Type 0
WhyRefuses n =
    ((0 < n) × (n ≤ refusal.wrong_join)) ⊎ ((n ≡ refusal.short_notices) ⊎ ((n ≡ refusal.wrong_row) ⊎ (n ≡ refusal.unknown_connection)))

pub why_number : (f notices : List ℕ) (c n p : ℕ) → explained f notices c ≡ refused n p → WhyRefuses n
unfolding explained why_verdict
why_number f notices c n p h =
    let C = connections f in
    let v = or_else (file_verdict f) (why_verdict C notices c) in
    ⊎_elim
    (λ e. inl (file_number ((refused_iff f n p).0 e)))
    (λ e.
    inr
    (⊎_elim
    (λ r. inl (if_refused (ltb (length notices) notices_length) refusal.short_notices 0 n p r).1)
    (λ r.
    inr
    (⊎_elim
    (λ q. inl (rows_place C notices n p q).0)
    (λ q. inr (if_refused (leb C c) refusal.unknown_connection 0 n p q.1).1)
    ((else_refused (rows_verdict C notices) (refuse_if (leb C c) refusal.unknown_connection 0) n p).0 r.1)))
    ((else_refused (refuse_if (ltb (length notices) notices_length) refusal.short_notices 0) _ n p).0 e.1)))
    ((else_refused (file_verdict f) (why_verdict C notices c) n p).0 (answering_refused v (primary_delay c (rows_of notices)) n p (sym h)))

-- with a notice area that holds its rules the connection alone decides
pub why_standing : (f notices : List ℕ) (c : ℕ) → file_verdict f ≡ Passed → notices_length ≤ length notices → rows_verdict (connections f) notices ≡ Passed
    → explained f notices c ≡ answering (refuse_if (leb (connections f) c) refusal.unknown_connection 0) (primary_delay c (rows_of notices))
unfolding explained why_verdict
why_standing f notices c file long rows = rw (file, le-ltb (length notices) notices_length long, rows)

-- the front of the notice area decides
pub front_explained : (f notices : List ℕ) (k : ℕ) → Covers k notices_length notices → (c : ℕ) → explained f notices c ≡ explained f (take k notices) c
unfolding explained why_verdict
front_explained f notices k h c =
    let C = connections f in
    let front = take k notices in
    let rest = drop k notices in
    let d = covers_decides k notices_length notices h in
    ap (λ (x : List ℕ). explained f x c) (sym (take-append-drop k notices))
    ∙ answering_same
    (else_same (file_verdict f)
    (λ file.
    rw d
    (else_same (refuse_if (ltb (length front) notices_length) refusal.short_notices 0)
    (λ room. rw (rows_verdict_lem C front rest (ltb-false (length front) notices_length ((if_passed _ refusal.short_notices 0).0 room)))))))
    (λ v. let w = why_passed C front c ((else_passed (file_verdict f) (why_verdict C front c)).0 v).1 in ap (primary_delay c) (rows_same C front rest w.rows.long w.checked))

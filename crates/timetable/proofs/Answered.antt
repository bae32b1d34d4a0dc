-- What the answer of the check tells of the file. Assumes nothing.
use Rattle.std.proofs.Common.{◌≡◌, ℕ, List, sym, refl, ap, arith}
use Rattle.refusals.specs.Answers.{Answer, accepted, refused, answering, Verdict, Passed, Refused}
use Rattle.timetable.specs.Accepted.{Timetable, Opened}
use Rattle.timetable.specs.Refusals.{FileRefusal}
use Rattle.timetable.specs.Check.{counts_of, file_verdict, checked_answer}
use Rattle.timetable.specs.declared.Counts.{Counts}
use Rattle.timetable.proofs.Accepted.{accepted_iff}
use Rattle.timetable.proofs.Refusals.{refused_iff}

-- no answer is both
not_both : {A : Type 0} {a : A} {n p : ℕ} → ◌≡◌ {A = Answer A} (accepted a) (refused n p) → ⊥
not_both e = let z : ◌≡◌ {A = ℕ} 0 1 = cc in omega arith

-- which verdict an answer comes from
passed : {A : Type 0} (v : Verdict) (a b : A) → accepted a ≡ answering v b → (v ≡ Passed) × (a ≡ b)
passed Passed a b e = (refl, cc)
passed (Refused n p) a b e = absurd (not_both e)

stopped : {A : Type 0} (v : Verdict) (b : A) (n p : ℕ) → refused n p ≡ answering v b → v ≡ Refused n p
stopped Passed b n p e = absurd (not_both (sym e))
stopped (Refused m q) b n p e = cc

module _ (f : List ℕ) where
  -- a file that the check accepts is a timetable, and the answer is its counts
  pub answered_accepted : (a : Counts) → accepted a ≡ checked_answer f → Timetable f × (a ≡ counts_of f)
  answered_accepted a e = let h = passed (file_verdict f) a (counts_of f) e in ((accepted_iff f).0 h.0, h.1)

  -- a file that it refuses is refused for this reason
  pub answered_refused : (n p : ℕ) → refused n p ≡ checked_answer f → FileRefusal f n p
  answered_refused n p e = (refused_iff f n p).0 (stopped (file_verdict f) (counts_of f) n p e)

  -- the same where code goes by the answer
  pub opened_by : (a : Counts) → accepted a ≡ checked_answer f → Opened f a.stops a.connections
  opened_by a e =
      let g = answered_accepted a e in
      record { timetable = g.0; stops = ap (λ (k : Counts). k.stops) g.1; connections = ap (λ (k : Counts). k.connections) g.1 }

  pub refused_by : (n p : ℕ) → refused n p ≡ checked_answer f → file_verdict f ≡ Refused n p
  refused_by n p e = (refused_iff f n p).1 (answered_refused n p e)

-- What it tells that a posting or a withdrawal passes. Assumes nothing.
use Rattle.std.proofs.Common.{◌≡◌, ℕ, ◌<◌, ◌≤◌, true, false, not, ◌&&◌, eqb, leb, List, length, arith, ne_eqb, le-leb, leb-false, leb-true}
use borrow.Author.Tests.{lt-leb, eqb-false, not-false}
use Rattle.refusals.specs.Answers.{refuse_if, or_else, Passed}
use Rattle.refusals.specs.RefusalNumber as refusal
use Rattle.model.specs.Notices.{notice, room, least_delay, most_posted, most_standing, stands, stands_elsewhere, entered, WellFormed}
use Rattle.model.specs.declared.Notice.{Notice}
use Rattle.model.specs.Parts.{asked_verdict, posting_asks, withdrawal_asks}
use Rattle.model.proofs.Verdicts.{else_passed, if_passed}
use Rattle.model.proofs.Rows.{Fits}
use Rattle.model.proofs.ByCases.{and_left, and_right}
use Rattle.model.proofs.Entering.{entered_fits, entered_formed}

-- a number that is not 0 is above it, and what may be posted may stand
limits : (n d : ℕ) → (n ≡ 0 → ⊥) → d ≤ most_posted → (0 < n) × (d ≤ most_standing)
limits n d h l = omega arith

-- 12, 13 and 14 have passed: what stands decides
pub by_standing : (C : ℕ) (ns : List Notice) (n c d : ℕ) → (n ≡ 0 → ⊥) → c < C → least_delay ≤ d → d ≤ most_posted
    → asked_verdict ns (posting_asks C n c d)
    ≡ or_else (refuse_if (stands_elsewhere n c ns) refusal.stands_elsewhere 0)
    (or_else (refuse_if (not (stands n ns) && leb room (length ns)) refusal.no_room 0) Passed)
by_standing C ns n c d h l least most = rw (ne_eqb n 0 h, lt-leb C c l, le-leb least_delay d least, le-leb d most_posted most)

-- 12, 13, 14, 25 and 26 have passed
pub record PostingPassed (C : ℕ) (ns : List Notice) (n c d : ℕ) : Type 0 where
  pub fits : Fits C 0 (notice n c d)
  pub most : d ≤ most_posted
  pub not_elsewhere : stands_elsewhere n c ns ≡ false
  -- its number stands, or there is room for one more
  pub room_left : not (stands n ns) && leb room (length ns) ≡ false

pub posting_passed : (C : ℕ) (ns : List Notice) (n c d : ℕ) → asked_verdict ns (posting_asks C n c d) ≡ Passed → PostingPassed C ns n c d
posting_passed C ns n c d h =
    let a = (else_passed (refuse_if (eqb n 0) refusal.no_number 0) _).0 h in
    let b = (else_passed (refuse_if (leb C c) refusal.unknown_connection 0) _).0 a.1 in
    let e = (else_passed _ _).0 b.1 in
    let s = (else_passed (refuse_if (stands_elsewhere n c ns) refusal.stands_elsewhere 0) _).0 e.1 in
    let delay = not-false _ ((if_passed _ refusal.wrong_delay 0).0 e.0) in
    let most = leb-true _ _ (and_right (leb least_delay d) _ delay) in
    let l = limits n d (eqb-false _ _ ((if_passed _ refusal.no_number 0).0 a.0)) most in
    record {
      fits = (
        l.0,
        record {
          exists = leb-false _ _ ((if_passed _ refusal.unknown_connection 0).0 b.0);
          least = leb-true _ _ (and_left _ (leb d most_posted) delay);
          most = l.1;
        },
      );
      most = most;
      not_elsewhere = (if_passed _ refusal.stands_elsewhere 0).0 s.0;
      room_left = (if_passed _ refusal.no_room 0).0 ((else_passed _ Passed).0 s.1).0;
    }

-- notices that may stand with the one posted
pub posting_formed : (C : ℕ) (ns : List Notice) (n c d : ℕ) → WellFormed C ns → asked_verdict ns (posting_asks C n c d) ≡ Passed
    → WellFormed C (entered (notice n c d) ns)
posting_formed C ns n c d w h =
    let p = posting_passed C ns n c d h in
    entered_formed C (notice n c d) ns p.fits (entered_fits C (notice n c d) ns p.room_left w) w

-- 12 and 27 have passed
pub withdrawal_stands : (ns : List Notice) (n : ℕ) → asked_verdict ns (withdrawal_asks n) ≡ Passed → stands n ns ≡ true
withdrawal_stands ns n h =
    not-false _ ((if_passed _ refusal.not_standing 0).0 ((else_passed _ Passed).0 ((else_passed (refuse_if (eqb n 0) refusal.no_number 0) _).0 h).1).0)

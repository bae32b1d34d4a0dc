-- What an accepted posting does, and that a notice posted again as it stands changes nothing. Assumes nothing.
use Rattle.std.proofs.Common.{◌≡◌, ℕ, suc, ◌≤◌, true, false, List, [], length, sym, refl, ap, ◌∙◌, ap₂, arith}
use mathlib.Core.List.{Memᴰ}
use Rattle.refusals.specs.Answers.{accepted, Verdict, Passed, Refused}
use Rattle.timetable.specs.File.{connections}
use Rattle.model.specs.Notices.{notice, most_posted, stands, stands_elsewhere, entered, WellFormed}
use Rattle.model.specs.declared.Notice.{Notice}
use Rattle.model.specs.Day.{Day, Areas, lent}
use Rattle.model.specs.Drawn.{standing}
use Rattle.model.specs.Parts.{asked_verdict, verdict, call_parts, posting_asks, open_verdict}
use Rattle.model.specs.Operations.{Outcome, outcome, written, concluded, changed, posted}
use Rattle.model.proofs.Verdicts.{accepted_not_refused}
use Rattle.model.proofs.Entering.{EnteredInto, entered_into, entered_here, entered_same, stands_iff, among_above, among_within, length_new, length_corrected}
use Rattle.model.proofs.Parts.{CallPassed, call_passed}
use Rattle.model.proofs.Operations.{accepts}
use Rattle.model.proofs.Asked.{by_standing, posting_passed, posting_formed}
use Rattle.model.proofs.Ready.{ready_by, open_ready}
use Rattle.model.proofs.Runs.{standing_written, room_written, contents_written}

-- a notice posted as it stands is accepted and changes nothing
pub posted_same : (day : Day) (areas : Areas) (n c d : ℕ) → open_verdict day areas ≡ Passed → Memᴰ (notice n c d) (standing areas)
    → d ≤ most_posted → posted day areas n c d ≡ outcome (accepted n) areas
posted_same day areas n c d passed m most =
    let C = connections day.file in
    let a = notice n c d in
    let ns = standing areas in
    let ready = open_ready day areas passed in
    let up = ready.rows.rows.ascending in
    let same = entered_same C 0 a ns m up in
    let here : stands_elsewhere n c ns ≡ false = rw same at (entered_here a ns) in
    let stands-so : stands n ns ≡ true = (stands_iff n ns).1 (a, m, refl) in
    let within = among_within C 0 a ns m up in
    let above = among_above C 0 a ns m up in
    let asked : asked_verdict ns (posting_asks C n c d) ≡ Passed =
    by_standing C ns n c d (λ (e : n ≡ 0). omega arith) within.exists within.least most ∙ rw (here, stands-so) in
    let kept : areas ≡ written day areas (entered a ns) = ap₂ lent ready.rows.noted ready.drawn ∙ ap (written day areas) (sym same) in
    sym (accepts day areas (posting_asks C n c d) n (entered a) areas passed asked kept)

-- a posting that is accepted
module _ (day : Day) (areas : Areas) (n c d v : ℕ) (h : (posted day areas n c d).answer ≡ accepted v) where
  abbrev C : ℕ
  C = connections day.file

  abbrev after : Areas
  after = (posted day areas n c d).areas

  abbrev rows : List Notice
  rows = entered (notice n c d) (standing areas)

  -- it passes its checks, answers its number and leaves the areas of the notices with the one posted
  posted_by : CallPassed day areas [] (posting_asks C n c d) × (v ≡ n) × (posted day areas n c d ≡ outcome (accepted n) (written day areas rows))
  unfolding changed
  posted_by =
      let r = on (verdict day areas (call_parts day areas [] (posting_asks C n c d))) h in
      (call_passed day areas [] (posting_asks C n c d) r.0, r.1, r.2)
    where
      on : (w : Verdict) → (concluded w day areas n rows).answer ≡ accepted v
          → (w ≡ Passed) × (v ≡ n) × (concluded w day areas n rows ≡ outcome (accepted n) (written day areas rows))
      on Passed e = (refl, cc, refl)
      on (Refused m p) e = absurd (accepted_not_refused (sym e))

  formed : WellFormed (connections day.file) (standing areas)
  formed = let p = posted_by.0 in (ready_by day areas p.file p.room_passed p.contents_passed).rows.rows

  rows_formed : WellFormed (connections day.file) (entered (notice n c d) (standing areas))
  rows_formed = posting_formed C (standing areas) n c d formed posted_by.0.own_passed

  rows_after : standing (posted day areas n c d).areas ≡ entered (notice n c d) (standing areas)
  rows_after = rw posted_by.2 (standing_written day areas rows)

  -- of its number one row stands, as posted, and every other row is as it was
  pub posted_rows : EnteredInto (notice n c d) (standing areas) (standing (posted day areas n c d).areas)
  posted_rows = rw rows_after (entered_into (notice n c d) (standing areas))

  -- a correction keeps the count
  pub correction_count : stands n (standing areas) ≡ true → length (standing (posted day areas n c d).areas) ≡ length (standing areas)
  correction_count s = ap length rows_after ∙ length_corrected C 0 (notice n c d) (standing areas) s formed.ascending

  -- a new number is one more
  pub new_count : stands n (standing areas) ≡ false → length (standing (posted day areas n c d).areas) ≡ suc (length (standing areas))
  new_count s = ap length rows_after ∙ length_new (notice n c d) (standing areas) s

  -- the same again changes nothing
  pub posted_again : posted day (posted day areas n c d).areas n c d ≡ outcome (accepted n) (posted day areas n c d).areas
  posted_again =
      let p = posted_by.0 in
      let passed : open_verdict day after ≡ Passed =
      ap (λ (o : Outcome ℕ). open_verdict day o.areas) posted_by.2
      ∙ rw (p.file, room_written day areas rows rows_formed, contents_written day areas rows rows_formed) in
      posted_same day after n c d passed posted_rows.there (posting_passed C (standing areas) n c d p.own_passed).most

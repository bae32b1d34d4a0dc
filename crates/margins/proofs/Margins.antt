-- A margin by its parts. Assumes nothing.
use Rattle.std.proofs.Common.{◌≡◌, ℕ, List, [], sym, refl, ◌∙◌, arith}
use Rattle.graph.specs.Answers.{Answer, accepted, refused, or_else, answering, Verdict, Passed, Refused}
use Rattle.timetable.specs.File.{transfer_time, to}
use lib.IntN.{ℤ}
use Rattle.model.specs.Graph.{departure_in, arrival_in}
use Rattle.model.specs.Margin.{margin_between, margin_of, MarginRange}
use Rattle.model.specs.Day.{Day, Areas}
use Rattle.model.specs.Drawn.{standing, network_by}
use Rattle.model.specs.Parts.{asked_verdict, margin_asks, open_verdict}
use Rattle.model.specs.Times.{network_of}
use Rattle.model.specs.Operations.{margined}
use Rattle.model.specs.Shown.{shown}
use Rattle.model.proofs.Verdicts.{else_passed}
use Rattle.model.proofs.Times.{network_sound}
use Rattle.model.proofs.Margin.{margin_range}
use Rattle.model.proofs.Parts.{call_open}
use Rattle.model.proofs.Ready.{open_ready}
use Rattle.model.proofs.Shown.{margin_shown}
use Rattle.margins.specs.Margin.{MarginAnswered}
use Rattle.margins.proofs.Asked.{change_passed}

module _ (day : Day) (areas : Areas) (c d : ℕ) where
  abbrev own : Verdict
  own = asked_verdict [] (margin_asks day.file c d)

  margined_is : answering (or_else (open_verdict day areas) own) (margin_of (network_by day areas) c d) ≡ margined day areas c d
  unfolding margined
  margined_is = rw (call_open day areas (margin_asks day.file c d))

  -- the file or the areas are refused
  pub margined_refused : (n p : ℕ) → open_verdict day areas ≡ Refused n p → refused n p ≡ margined day areas c d
  margined_refused n p h = rw (← margined_is, h)

  -- the minutes by what the graph area shows are those by the notices
  shown_same : open_verdict day areas ≡ Passed → (v : Verdict) → own ≡ v
      → answering v (margin_of (shown day.file areas.graph) c d) ≡ answering v (margin_of (network_by day areas) c d)
  shown_same h Passed e =
      let k = change_passed day.file c d e in
      rw (margin_shown day areas (open_ready day areas h) c d k.0 k.1)
  shown_same h (Refused n p) e = refl

  -- neither is
  pub margined_shown : (r : Answer ℤ) → open_verdict day areas ≡ Passed
      → r ≡ answering (asked_verdict [] (margin_asks day.file c d)) (margin_of (shown day.file areas.graph) c d)
      → r ≡ margined day areas c d
  margined_shown r h e = rw (← margined_is, h) (e ∙ shown_same h own refl)

-- an accepted margin lies between its ends
pub margined_range : (day : Day) (areas : Areas) (c d : ℕ) (z : ℤ) → margined day areas c d ≡ accepted z → MarginRange z
unfolding network_of
margined_range day areas c d z h = on (or_else (open_verdict day areas) (own day areas c d)) refl
  where
    on : (v : Verdict) → or_else (open_verdict day areas) (own day areas c d) ≡ v → MarginRange z
    on Passed e =
        let k = (else_passed (open_verdict day areas) (own day areas c d)).0 e in
        let o = open_ready day areas k.0 in
        let r = change_passed day.file c d k.1 in
        let q : accepted (margin_of (network_by day areas) c d) ≡ accepted z = rw e at (margined_is day areas c d ∙ h) in
        let m : margin_of (network_by day areas) c d ≡ z = cc in
        rw m at (margin_range (network_by day areas) c d (network_sound day o.timetable (standing areas) o.rows.rows) r.0 r.1)
    on (Refused n p) e =
        let q : ◌≡◌ {A = Answer ℤ} (refused n p) (accepted z) = rw e at (margined_is day areas c d ∙ h) in
        absurd (let w : ◌≡◌ {A = ℕ} 0 1 = cc in omega arith)

-- the equation gives the whole promise
pub answered : (day : Day) (areas : Areas) (c d : ℕ) {r : Answer ℤ} → r ≡ margined day areas c d → MarginAnswered day areas c d r
answered day areas c d e = record { answer = e; range = λ z h. margined_range day areas c d z (sym e ∙ h) }

-- what the readers read is the margin
pub margin_read : (f graph : List ℕ) (c d departure arrival stop transfer : ℕ)
    → departure ≡ departure_in graph d → arrival ≡ arrival_in graph c → stop ≡ to f c → transfer ≡ transfer_time f stop → margin_between departure arrival transfer ≡ margin_of (shown f graph) c d
unfolding margin_of
margin_read f graph c d departure arrival stop transfer x y z w = rw (x, y, w, z)

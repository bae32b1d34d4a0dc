-- An enquiry on the fronts gives what it gives on the whole areas of bytes. Assumes nothing.
use Rattle.std.proofs.Common.{◌≡◌, ℕ, ◌+◌, ◌-◌, ◌≤◌, Bool, true, false, eqb, List, ◌++◌, reverse, length, take, drop, sym, refl, ap, ◌∙◌, ap₂, true≢false, arith, length-append, length-drop, drop_at, ne_eqb}
use lib.ListN.{length-reverse}
use Rattle.numbers.specs.Numbers.{numbers_of}
use Rattle.numbers.proofs.Areas.{Bytes}
use Rattle.refusals.specs.Answers.{Answer, refused, Verdict, Passed, Refused}
use Rattle.timetable.specs.File.{stops, connections}
use Rattle.timetable.specs.Check.{max_connections, file_verdict}
use Rattle.timetable.proofs.Accepted.{accepted_iff}
use Rattle.refusals.specs.RefusalNumber as refusal
use Rattle.model.specs.Network.{Network}
use Rattle.model.specs.Times.{network_of}
use Rattle.model.specs.Predecessors.{predecessors, nowhere, journey_in}
use Rattle.model.specs.Parts.{verdict, enquiry_room, enquiry_asks}
use Rattle.model.proofs.Rounds.{length_predecessors}
use Rattle.model.proofs.Parts.{avoids, call_passed}
use Rattle.model.proofs.Enquiries.{before_30}
use Rattle.model.specs.Notices.{notices_length}
use Rattle.model.specs.Day.{Day, Areas, lent}
use Rattle.model.specs.Operations.{Enquiry, enquiry, answered, searched, enquiry_parts, enquired}
use Rattle.model.specs.declared.Arrival.{Arrival}
use Rattle.model.proofs.Fronts.{enquiry_behind, fronts, front_enquired}
use Rattle.codes.specs.Encoded.{coded_arrival}
use Rattle.model.specs.Drawn.{network_by, most_graph}
use Rattle.fronts.specs.Fronts.{writes, lent_bytes, ReadFronts, WrittenBoth}
use Rattle.fronts.proofs.Fronts.{graph_covers, connections_cover, Changed, both_front, first_whole, second_whole}
use Rattle.written_enquiries.specs.Found.{is_searched, journey_length, FoundRoom}
use Rattle.enquiries.specs.Enquired.{EnquiryBytes}

-- what an enquiry has changed, and that a file passes where one was searched for
pub record Found (day : Day) (w j : List ℕ) (answer : Answer Arrival) (w' j' : List ℕ) : Type 0 where
  pub file_passed : is_searched answer ≡ true → file_verdict day.file ≡ Passed
  pub work_changed : Changed (writes (is_searched answer) (connections day.file)) w w'
  pub journey_changed : Changed (journey_length answer) j j'

module _ (day : Day) (areas : Areas) (w j : List ℕ) (a b t : ℕ) where
  abbrev net : Network
  net = network_by day areas

  abbrev ps : List ℕ
  ps = predecessors net a t

  abbrev js : List ℕ
  js = journey_in net ps a b

  module _ (answer : Answer Arrival) (w' j' : List ℕ) (h : length w' ≡ length w) (h' : length j' ≡ length j) where
    -- the predecessors are a front
    work_front : w' ≡ ps ++ drop (connections day.file) w → Changed (connections day.file) w w'
    unfolding network_of
    work_front e =
        let C = connections day.file in
        let n : length ps ≡ C = length_predecessors net a t in
        let l : length w' ≡ length ps + (length w - C) = ap length e ∙ simp (length-append, length-drop) in
        record { kept = h; within = omega (arith, l, h, n); past = ap (drop C) e ∙ drop_at ps (drop C w) C n }

    journey_front : j' ≡ reverse js ++ drop (length js) j → Changed (length js) j j'
    journey_front e =
        let l : length j' ≡ length js + (length j - length js) = ap length e ∙ simp (length-append, length-drop, length-reverse) in
        record { kept = h'; within = omega (arith, l, h'); past = ap (drop (length js)) e ∙ drop_at (reverse js) (drop (length js) j) (length js) (length-reverse js) }

    ends : (none : Bool) → file_verdict day.file ≡ Passed → enquiry answer w' j' ≡ answered none net t js (ps ++ drop net.connections w) j
        → Found day w j answer w' j'
    unfolding network_of
    ends true file e =
        let r : answer ≡ refused refusal.unreachable 0 = ap (λ (x : Enquiry). x.answer) e in
        rw r (record {
          file_passed = λ x. file;
          work_changed = work_front (ap (λ (x : Enquiry). x.work) e);
          journey_changed = record { kept = h'; within = omega arith; past = ap (λ (x : Enquiry). x.journey) e };
        })
    ends false file e =
        let r = ap (λ (x : Enquiry). x.answer) e in
        rw r (record {
          file_passed = λ x. file;
          work_changed = work_front (ap (λ (x : Enquiry). x.work) e);
          journey_changed = journey_front (ap (λ (x : Enquiry). x.journey) e);
        })

    -- what an enquiry has changed
    pub enquiry_changes : enquiry answer w' j' ≡ enquired day areas w j a b t → Found day w j answer w' j'
    unfolding enquired
    enquiry_changes = on (verdict day areas (enquiry_parts day areas w j a b t)) refl
      where
        on : (v : Verdict) → verdict day areas (enquiry_parts day areas w j a b t) ≡ v → enquiry answer w' j' ≡ searched v net a b t w j
            → Found day w j answer w' j'
        on Passed p e = ends (nowhere net ps a b) (call_passed day areas (enquiry_room day w j) (enquiry_asks (stops day.file) a b t) p).file e
        on (Refused n q) p e =
            let r : answer ≡ refused n q = ap (λ (x : Enquiry). x.answer) e in
            let k : eqb n refusal.unreachable ≡ false =
            ne_eqb n refusal.unreachable
            (λ (m : n ≡ refusal.unreachable). avoids day areas (enquiry_parts day areas w j a b t) refusal.unreachable q (before_30 day areas w j a b t) (rw m at p)) in
            rw r (record {
              file_passed = λ x. absurd (true≢false (sym x ∙ k));
              work_changed = rw k (record { kept = h; within = omega arith; past = ap (λ (x : Enquiry). x.work) e });
              journey_changed = record { kept = h'; within = omega arith; past = ap (λ (x : Enquiry). x.journey) e };
            })

    -- one that was searched for has room for what it found
    pub found_room : enquiry answer w' j' ≡ enquired day areas w j a b t → is_searched answer ≡ true → FoundRoom day.file w' j' answer
    found_room e s =
        let found = enquiry_changes e in
        let t = (accepted_iff day.file).0 (found.file_passed s) in
        let c = found.work_changed in
        let d = found.journey_changed in
        let l : writes (is_searched answer) (connections day.file) ≤ length w = c.within in
        record { header = omega (arith, t.long); work_room = omega (arith, c.kept, rw s at l); journey_room = omega (arith, d.kept, d.within) }

-- notices and graph read into n and g, predecessors and journey into w and j, and written back after an enquiry
module _ {notices graph n g work journey w j : List ℕ} (read : ReadFronts notices_length most_graph notices graph n g)
    (read' : ReadFronts max_connections max_connections work journey w j) (p : Bytes work) (q : Bytes journey) where
  pub enquiry_written : (day : Day) (a b t : ℕ) {answer : Answer Arrival} {w' j' : List ℕ} → length w' ≡ length w → length j' ≡ length j
      → enquiry answer w' j' ≡ enquired day (lent n g) w j a b t → {work' journey' : List ℕ}
      → WrittenBoth (take (writes (is_searched answer) (connections day.file)) w') (take (journey_length answer) j') work journey work' journey'
      → {code : ℕ} → code ≡ coded_arrival answer
      → EnquiryBytes (enquired day (lent_bytes notices graph) (numbers_of work) (numbers_of journey) a b t) work journey code work' journey'
  enquiry_written day a b t {answer} {w'} {j'} h h' e back k =
      let areas : Areas = lent_bytes notices graph in
      let ws = numbers_of work in
      let js = numbers_of journey in
      let c = enquiry_changes day (lent n g) w j a b t answer w' j' h h' e in
      let o : enquired day areas ws js a b t ≡ enquiry_behind (enquiry answer w' j') (drop max_connections ws) (drop max_connections js) =
      front_enquired day areas notices_length most_graph (omega arith) (graph_covers day.file areas.graph) ws js max_connections max_connections
      (connections_cover day.file ws) (connections_cover day.file js) a b t
      ∙ ap (λ (x : Enquiry). enquiry_behind x (drop max_connections ws) (drop max_connections js))
      (sym
      (e
      ∙ ap (λ (x : Areas). enquired day x w j a b t) (both_front read)
      ∙ ap₂ (λ (x y : List ℕ). enquired day (fronts areas notices_length most_graph) x y a b t) read'.first_read read'.second_read)) in
      rw o (record {
        answer = k;
        work_written = first_whole read' p c.work_changed back.first_written;
        journey_written = second_whole read' q c.journey_changed back.second_written;
      })

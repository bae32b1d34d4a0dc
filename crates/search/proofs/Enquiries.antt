-- An enquiry by its parts. Assumes nothing.
use Rattle.std.proofs.Common.{◌≡◌, ℕ, ◌*◌, ◌<◌, ◌≤◌, List, [], ◌++◌, length, take, drop, ap, ◌∙◌, arith, take_at}
use Rattle.graph.specs.Answers.{Answer, refused, or_else, Passed, Refused}
use Rattle.timetable.specs.File.{stops, connections}
use Rattle.timetable.specs.Check.{file_verdict, max_connections}
use Rattle.timetable.specs.Accepted.{Timetable}
use Rattle.timetable.proofs.Accepted.{accepted_iff}
use Rattle.timetable.proofs.Order.{else_assoc}
use Rattle.model.specs.Network.{last_expected}
use Rattle.model.specs.Graph.{departure_in}
use Rattle.model.specs.Predecessors.{predecessors}
use Rattle.model.specs.Day.{Day, Areas}
use Rattle.model.specs.Parts.{Ask, asked_verdict, part_verdict, verdict, enquiry_room, enquiry_asks}
use Rattle.model.specs.Operations.{Enquiry, enquiry, searched, enquiry_parts, enquired}
use Rattle.model.specs.declared.Arrival.{Arrival}
use Rattle.model.specs.Shown.{shown}
use Rattle.model.proofs.Parts.{call_chain}
use Rattle.model.proofs.Shown.{searched_shown}
use Rattle.model.proofs.Rounds.{length_predecessors}
use Rattle.model.proofs.Enquiries.{enquiry_means}
use Rattle.graph.specs.declared.Network.{Network}
use Rattle.journeys.specs.Reading.{read_out}
use Rattle.search.specs.Answered.{Answered}
use Rattle.requests.specs.Lent.{lent_verdict}
use Rattle.requests.proofs.Room.{room_parts, lent_ready}

-- the departures of a network can be sorted
pub sortable : (v : Network) → let n = v.shown.timetable.connections in
    (n ≤ max_connections) × (2 * n ≤ length v.shown.graph.now) × ((c : ℕ) → c < n → departure_in v.shown.graph.now c < last_expected)
sortable v =
    let o = v.shown.timetable.opened in
    let s = v.shown.sound in (
      omega (arith, s.few, o.connections),
      omega (arith, v.shown.room, o.connections),
      λ c h. let l : c < connections v.shown.timetable.file.now = omega (arith, o.connections) in omega (arith, s.forward c l, s.early c l),
    )

module _ (v : Network) (work : List ℕ) (a t : ℕ) (filled : List ℕ)
    (e : filled ≡ predecessors (shown v.shown.timetable.file.now v.shown.graph.now) a t ++ drop v.shown.timetable.connections work) where
  abbrev f : List ℕ
  f = v.shown.timetable.file.now

  abbrev graph : List ℕ
  graph = v.shown.graph.now

  filled_is : filled ≡ predecessors (shown f graph) a t ++ drop (connections f) work
  filled_is = e ∙ ap (λ (n : ℕ). predecessors (shown f graph) a t ++ drop n work) v.shown.timetable.opened.connections

  begins : take (connections f) filled ≡ predecessors (shown f graph) a t
  begins = ap (take (connections f)) filled_is ∙ take_at _ _ _ (length_predecessors (shown f graph) a t)

  -- the predecessors that were filled in
  pub front : take v.shown.timetable.connections filled ≡ predecessors (shown f graph) a t
  front = ap (λ (n : ℕ). take n filled) v.shown.timetable.opened.connections ∙ begins

  -- what is read out of them is what is searched for
  pub searched_read : (b : ℕ) (journey : List ℕ)
      → read_out (shown f graph) filled journey a b t ≡ searched Passed (shown f graph) a b t work journey
  searched_read b journey = rw (begins, filled_is)

module _ (day : Day) (areas : Areas) (work journey : List ℕ) where
  module _ (timetable : Timetable day.file) where
    -- the end of an enquiry, by the verdicts on its areas and its numbers
    module _ (a b t : ℕ) where
      abbrev own : List Ask
      own = enquiry_asks (stops day.file) a b t

      chain : verdict day areas (enquiry_parts day areas work journey a b t)
          ≡ or_else (lent_verdict day areas work journey) (asked_verdict [] own)
      chain =
          call_chain day areas (enquiry_room day work journey) own
          ∙ rw ((accepted_iff day.file).1 timetable, room_parts day areas work journey) (simp else_assoc)

      pub enquired_lent : (n p : ℕ) → lent_verdict day areas work journey ≡ Refused n p
          → enquiry (refused n p) work journey ≡ enquired day areas work journey a b t
      unfolding enquired
      enquired_lent n p h = rw (chain, h)

      pub enquired_asked : (n p : ℕ) → lent_verdict day areas work journey ≡ Passed → asked_verdict [] own ≡ Refused n p
          → enquiry (refused n p) work journey ≡ enquired day areas work journey a b t
      unfolding enquired
      enquired_asked n p h k = rw (chain, h, k)

      pub enquired_found : (r : Enquiry) → lent_verdict day areas work journey ≡ Passed → asked_verdict [] own ≡ Passed
          → r ≡ searched Passed (shown day.file areas.graph) a b t work journey → r ≡ enquired day areas work journey a b t
      unfolding enquired
      enquired_found r h k e = rw (chain, h, k) (e ∙ searched_shown day areas (lent_ready day areas work journey timetable h) a b t work journey)

  module _ (a b t : ℕ) where
    -- a file that is refused
    pub enquired_refused : (n p : ℕ) → file_verdict day.file ≡ Refused n p
        → enquiry (refused n p) work journey ≡ enquired day areas work journey a b t
    unfolding enquired part_verdict
    enquired_refused n p e = rw e

    -- what the answer means goes with the answer
    pub answered_by : (answer : Answer Arrival) (w j : List ℕ) → enquiry answer w j ≡ enquired day areas work journey a b t
        → Answered day areas work journey a b t answer w j
    answered_by answer w j e = record { is = e; means = rw (← e) at (enquiry_means day areas work journey a b t) }

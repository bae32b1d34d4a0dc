-- A graph area that can be read without the notices: its entries, and that its arcs lead forward; and that what it shows is the
-- network of the notices that stand, wherever it matters. Assumes nothing.
use Rattle.std.proofs.Common.{◌≡◌, ℕ, zero, suc, ◌+◌, ◌*◌, ◌<◌, ◌≤◌, Bool, true, false, ◌&&◌, List, ◌++◌, length, take, drop, sym, refl, ap, ◌∙◌, ⊎_elim, append_assoc, arith, length-append, take-suc, ne_eqb}
use borrow.Author.Tests.{eqb-false}
use Rattle.timetable.specs.File.{connections}
use Rattle.refusals.specs.Answers.{Passed}
use Rattle.model.specs.Least.{none, least_below}
use Rattle.model.specs.Network.{Network, Sound}
use Rattle.model.specs.Times.{network_of}
use Rattle.model.specs.Graph as G
use Rattle.model.specs.Graph.{waiting, transfer, times, graph_of, departure_in, arrival_in, waiting_in, transfer_in, Node, Arc}
use Rattle.model.specs.Journeys.{can_be_first, can_follow, arrives}
use Rattle.model.specs.Predecessors.{reached_in, choose, rounds, predecessors, arriving, last_to, nowhere, journey_in}
use Rattle.model.specs.Margin.{margin_of}
use Rattle.model.specs.Day.{Day, Areas}
use Rattle.model.specs.Drawn.{graph_length, network_by}
use Rattle.model.specs.Operations.{answered, searched}
use Rattle.model.specs.Ready.{Ready}
use Rattle.model.specs.Shown.{shown, Readable, AreaArc, aboard, onward, wait, change, connection_of, Leads}
use Rattle.model.proofs.ByCases.{by_eq}
use Rattle.model.proofs.Tab.{tab_same}
use Rattle.model.proofs.Least.{least_is, least_same}
use Rattle.model.proofs.Boards.{Listed, nobody, foremost, waiting_listed, transfer_listed, Alike, waiting_list_same, transfer_list_same, first_list_same}
use Rattle.model.proofs.Arcs.{arcs_forward}
use Rattle.model.proofs.GraphArea.{length_graph, waiting_within, transfer_within}
use Rattle.model.proofs.Rounds.{numbered}
use Rattle.model.proofs.Journeys.{follow_begins, journey_here, journey_there}
use Rattle.model.proofs.Ready.{sound, departure_read, arrival_read}

-- the front of an area is the times that it shows
pub times_in_lem : (f graph : List ℕ) (n : ℕ) → 2 * n ≤ length graph → take (2 * n) graph ≡ times (shown f graph) n
unfolding times
times_in_lem f graph zero h = refl
times_in_lem f graph (suc n) h =
    let q : 2 * suc n ≡ suc (suc (2 * n)) = omega arith in
    let e : 2 * n + 1 ≡ suc (2 * n) = omega arith in
    rw (q, take-suc graph (suc (2 * n)) 0 (omega arith), take-suc graph (2 * n) 0 (omega arith), times_in_lem f graph n (omega arith), e) (simp append_assoc)

-- the entries of an area that can be read
module _ (f graph : List ℕ) (r : Readable f graph) where
  abbrev net : Network
  net = shown f graph

  abbrev rest : List ℕ
  rest = drop (graph_length f) graph

  pub readable_room : graph_length f ≤ length graph
  readable_room =
      let l : length (graph_of net ++ rest) ≡ length (graph_of net) + length rest = length-append (graph_of net) rest in
      omega (arith, ap length r.drawn, length_graph net)

  module _ (c : ℕ) (h : c < connections f) where
    pub waiting_shown : waiting_in graph (connections f) c ≡ waiting (shown f graph) c
    waiting_shown = ap (λ (g : List ℕ). waiting_in g (connections f) c) r.drawn ∙ waiting_within net rest c h

    pub transfer_shown : transfer_in graph (connections f) c ≡ transfer (shown f graph) c
    transfer_shown = ap (λ (g : List ℕ). transfer_in g (connections f) c) r.drawn ∙ transfer_within net rest c h

-- an area with the expected times shows, wherever it matters, the network of the notices that stand
module _ (day : Day) (areas : Areas) (sound-by : Sound (network_by day areas))
    (departs : (c : ℕ) → c < connections day.file → departure_in areas.graph c ≡ (network_by day areas).departure c)
    (comes : (c : ℕ) → c < connections day.file → arrival_in areas.graph c ≡ (network_by day areas).arrival c) where
  abbrev S : Network
  S = shown day.file areas.graph

  abbrev N : Network
  N = network_by day areas

  few : connections day.file ≤ none
  unfolding network_of
  few = numbered sound-by

  agree : Alike S N
  unfolding network_of
  agree =
      record {
        stops = refl;
        connections = refl;
        boards = λ c h. refl;
        to = λ c h. refl;
        departure = departs;
        ready = λ c b h. rw (comes c h);
      }

  pub times_shown : (n : ℕ) → n ≤ connections day.file → times (shown day.file areas.graph) n ≡ times (network_by day areas) n
  unfolding times
  times_shown zero h = refl
  times_shown (suc n) h = rw (times_shown n (omega arith), departs n (omega arith), comes n (omega arith))

  -- the graph is the same
  pub graph_shown : graph_of (shown day.file areas.graph) ≡ graph_of (network_by day areas)
  unfolding graph_of network_of
  graph_shown =
      rw (times_shown (connections day.file) (omega arith), waiting_list_same S N few agree, transfer_list_same S N few agree, first_list_same S N few agree)

  pub sound_shown : Sound (shown day.file areas.graph)
  unfolding network_of
  sound_shown =
      record {
        few_stops = sound-by.few_stops;
        few = sound-by.few;
        from_stop_lem = sound-by.from_stop_lem;
        to_stop = sound-by.to_stop;
        transfers = sound-by.transfers;
        forward = λ c h. omega (arith, departs c h, comes c h, sound-by.forward c h);
        early = λ c h. omega (arith, comes c h, sound-by.early c h);
        starts = sound-by.starts;
        joins = sound-by.joins;
        keeps = λ c h q. omega (arith, comes c (omega arith), departs (suc c) h, sound-by.keeps c h q);
      }

  -- a step of a journey is the same
  first_shown : (a t c : ℕ) → c < connections day.file → can_be_first S a t c ≡ can_be_first N a t c
  unfolding can_be_first network_of
  first_shown a t c h = rw (departs c h)

  follow_shown : (e c : ℕ) → e < connections day.file → c < connections day.file → can_follow S e c ≡ can_follow N e c
  unfolding can_follow network_of
  follow_shown e c k h = rw (departs c h, comes e k)

  choose_shown : (a t : ℕ) (w : List ℕ) (c : ℕ) → c < connections day.file → choose S a t w c ≡ choose N a t w c
  unfolding choose network_of
  choose_shown a t w c h =
      let l : least_below (λ e. reached_in w e && can_follow S e c) (λ e. 0) (connections day.file) ≡ least_below (λ e. reached_in w e && can_follow N e c) (λ e. 0) (connections day.file) =
      least_same _ _ (λ e. 0) (λ e. 0) (connections day.file) few (λ e k. ap (λ (p : Bool). reached_in w e && p) (follow_shown e c k h)) (λ e k. refl) in
      rw (first_shown a t c h, l)

  rounds_shown : (a t k : ℕ) → rounds S a t k ≡ rounds N a t k
  unfolding rounds network_of
  rounds_shown a t zero = refl
  rounds_shown a t (suc k) =
      rw (rounds_shown a t k) (tab_same _ _ (connections day.file) (connections day.file) refl (choose_shown a t (rounds N a t k)))

  -- so are the predecessors
  predecessors_shown : (a t : ℕ) → predecessors S a t ≡ predecessors N a t
  unfolding predecessors network_of
  predecessors_shown a t = rounds_shown a t (connections day.file)

  -- so is the journey that is read out of them
  module _ (a b t : ℕ) (w : List ℕ) where
    last_shown : last_to S w b ≡ last_to N w b
    unfolding last_to arriving network_of
    last_shown = least_same _ _ S.arrival N.arrival (connections day.file) few (λ e l. refl) comes

    nowhere_shown : nowhere S w a b ≡ nowhere N w a b
    unfolding nowhere
    nowhere_shown = rw last_shown

    journey_shown : journey_in S w a b ≡ journey_in N w a b
    unfolding network_of
    journey_shown =
        ⊎_elim
        (λ q. journey_here S w a b q ∙ sym (journey_here N w a b q))
        (λ u. journey_there S w a b u ∙ rw last_shown (sym (journey_there N w a b u)))
        (by_eq a b)

  arrives_shown : (a b t : ℕ) → nowhere N (predecessors N a t) a b ≡ false
      → arrives S t (journey_in N (predecessors N a t) a b) ≡ arrives N t (journey_in N (predecessors N a t) a b)
  unfolding nowhere last_to network_of
  arrives_shown a b t e =
      let W : List ℕ = predecessors N a t in
      ⊎_elim
      (λ q. rw (journey_here N W a b q) refl)
      (λ u.
      let m : last_to N W b ≡ none → ⊥ = eqb-false _ _ (rw (ne_eqb a b u) at e) in
      let l : last_to N W b < connections day.file =
      ⊎_elim (λ x. absurd (m x.0)) (λ x. x.below) (least_is (arriving N W b) N.arrival (connections day.file) few) in
      let g = follow_begins W (connections day.file) (last_to N W b) (omega (arith, l)) in
      rw (journey_there N W a b u, g.1) (comes (last_to N W b) l))
      (by_eq a b)

  -- so is what an enquiry answers
  searched_same : (a b t : ℕ) (work journey : List ℕ) → searched Passed S a b t work journey ≡ searched Passed N a b t work journey
  unfolding network_of
  searched_same a b t work journey =
      let W : List ℕ = predecessors N a t in
      rw (predecessors_shown a t, nowhere_shown a b t W, journey_shown a b t W) (go (nowhere N W a b) (arrives_shown a b t))
    where
      go : (p : Bool) → (p ≡ false → arrives S t (journey_in N (predecessors N a t) a b) ≡ arrives N t (journey_in N (predecessors N a t) a b))
          → answered p S t (journey_in N (predecessors N a t) a b) (predecessors N a t ++ drop (connections day.file) work) journey
          ≡ answered p N t (journey_in N (predecessors N a t) a b) (predecessors N a t ++ drop (connections day.file) work) journey
      go true h = refl
      go false h = rw (h refl)

-- areas that are ready
module _ (day : Day) (areas : Areas) (r : Ready day areas) where
  abbrev departs : (c : ℕ) → c < connections day.file → departure_in areas.graph c ≡ (network_by day areas).departure c
  departs = departure_read day areas r

  abbrev comes : (c : ℕ) → c < connections day.file → arrival_in areas.graph c ≡ (network_by day areas).arrival c
  comes = arrival_read day areas r

  -- can be read without the notices
  pub readable : Readable day.file areas.graph
  readable =
      record {
        timetable = r.timetable;
        sound = sound_shown day areas (sound day areas r) departs comes;
        drawn = r.drawn ∙ ap (λ (g : List ℕ). g ++ drop (graph_length day.file) areas.graph) (sym (graph_shown day areas (sound day areas r) departs comes));
      }

  -- an enquiry answers the same by what they show
  pub searched_shown : (a b t : ℕ) (work journey : List ℕ) → searched Passed (shown day.file areas.graph) a b t work journey ≡ searched Passed (network_by day areas) a b t work journey
  searched_shown = searched_same day areas (sound day areas r) departs comes

  -- and so does a margin
  pub margin_shown : (c d : ℕ) → c < connections day.file → d < connections day.file → margin_of (shown day.file areas.graph) c d ≡ margin_of (network_by day areas) c d
  unfolding margin_of network_of
  margin_shown c d h k = rw (departs d k, comes c h)

-- an entry that is not none names a connection
entry_names : (net : Network) {P : ℕ → Type 0} {r : ℕ} → Listed net P r → {d : ℕ} → r ≡ d → (d ≡ none → ⊥) → d < net.connections
entry_names net (nobody q f) e h = absurd (h (sym e ∙ q))
entry_names net (foremost l p f) e h = rw (← e) l

-- the arcs of an area that can be read lead forward
module _ (f graph : List ℕ) (r : Readable f graph) where
  abbrev network : Network
  network = shown f graph

  forward : {x y : Node} → Arc network x y → connection_of y < connections f → Leads f graph x y
  forward {x} {y} arc h = record { exists = h; forward = arcs_forward network r.sound x y arc }

  pub arcs_lead : (x y : Node) → AreaArc f graph x y → Leads f graph x y
  arcs_lead x y (aboard {c} h) = forward (G.connection h) h
  arcs_lead x y (onward {c} h s) = forward (G.aboard h s) h
  arcs_lead x y (wait {c} {d} h q k) =
      let e : waiting network c ≡ d = sym (waiting_shown f graph r c h) ∙ q in
      let l : d < connections f = entry_names network (waiting_listed network r.sound c) e k in
      forward (G.wait h e l) l
  arcs_lead x y (change {c} {d} h q k) =
      let e : transfer network c ≡ d = sym (transfer_shown f graph r c h) ∙ q in
      let l : d < connections f = entry_names network (transfer_listed network r.sound c (network.to c)) e k in
      forward (G.change h e l) l

-- What accepted areas give: a sound network, and its entries in the graph area. Assumes nothing.
use Rattle.std.proofs.Common.{◌≡◌, ℕ, ◌+◌, ◌<◌, ◌≤◌, List, ◌++◌, length, take, drop, sym, ap, ◌∙◌, arith, length-append, take-append-drop}
use borrow.Author.Tests.{not-false}
use Rattle.timetable.specs.File.{connections}
use Rattle.refusals.specs.Answers.{accepted, refused, Passed, Refused}
use Rattle.timetable.specs.Accepted.{Opened}
use Rattle.timetable.specs.Check.{file_verdict, counts_of}
use Rattle.timetable.specs.declared.Counts.{Counts}
use Rattle.timetable.proofs.Accepted.{accepted_iff}
use Rattle.refusals.specs.RefusalNumber as refusal
use Rattle.model.specs.Notices.{notices_length, rows_verdict, Standing}
use Rattle.model.specs.declared.Notice.{Notice}
use Rattle.model.specs.Network.{Network, Sound}
use Rattle.model.specs.Times.{network_of}
use Rattle.model.specs.Graph.{departure_in, arrival_in}
use Rattle.model.specs.Day.{Day, Areas}
use Rattle.model.specs.Drawn.{graph_length, graph_for, standing, network_by}
use Rattle.model.specs.Parts.{part_verdict, rows, drawn, room_verdict, contents_verdict, areas_verdict, open_verdict, examined}
use Rattle.model.specs.Ready.{Ready}
use Rattle.model.proofs.Verdicts.{else_passed, if_passed, answering_accepted, answering_refused}
use Rattle.model.proofs.Lists.{same_eq}
use Rattle.model.proofs.Rows.{area_read}
use Rattle.model.proofs.Times.{network_sound}
use Rattle.model.proofs.GraphArea.{length_graph, departure_within, arrival_within}
use Rattle.model.proofs.Parts.{room_long}

-- the graph area's length
pub graph_long : (day : Day) (ns : List Notice) → length (graph_for day ns) ≡ graph_length day.file
unfolding network_of
graph_long day ns = length_graph (network_of day ns)

-- a notice area that passes 23 holds notices that may stand
pub rows_passed : (C : ℕ) (notices : List ℕ) → notices_length ≤ length notices → rows_verdict C notices ≡ Passed → Standing C notices
rows_passed C notices l h = let a = area_read C notices l h in record { long = l; rows = a.1; noted = a.0 }

-- areas that pass the checks 1 to 11 and 21 to 24 are ready
pub ready_by : (day : Day) (areas : Areas) → file_verdict day.file ≡ Passed → room_verdict day areas ≡ Passed → contents_verdict day areas ≡ Passed
    → Ready day areas
unfolding part_verdict
ready_by day areas file room contents =
    let c = (else_passed (part_verdict day areas rows) _).0 contents in
    let same : take (graph_length day.file) areas.graph ≡ graph_for day (standing areas) =
    same_eq _ _ (not-false _ ((if_passed _ refusal.wrong_graph 0).0 ((else_passed (part_verdict day areas drawn) Passed).0 c.1).0)) in
    record {
      timetable = (accepted_iff day.file).0 file;
      rows = rows_passed (connections day.file) areas.notices (room_long day areas room).0 c.0;
      drawn = sym (take-append-drop (graph_length day.file) areas.graph) ∙ ap (λ (l : List ℕ). l ++ drop (graph_length day.file) areas.graph) same;
    }

-- the same where 1 to 11 and 21 to 24 were checked as one
pub open_ready : (day : Day) (areas : Areas) → open_verdict day areas ≡ Passed → Ready day areas
open_ready day areas h =
    let a = (else_passed (file_verdict day.file) (areas_verdict day areas)).0 h in
    let b = (else_passed (room_verdict day areas) (contents_verdict day areas)).0 a.1 in
    ready_by day areas a.0 b.0 b.1

-- an examination of a timetable whose areas pass answers its counts
pub open_accepted : (day : Day) (areas : Areas) (s n : ℕ) → Opened day.file s n → areas_verdict day areas ≡ Passed
    → accepted (record { stops = s; connections = n }) ≡ examined day areas
open_accepted day areas s n o h = rw (o.stops, o.connections, (accepted_iff day.file).1 o.timetable, h)

-- and answers them only then
pub opened_passed : (day : Day) (areas : Areas) (counts : Counts) → accepted counts ≡ examined day areas
    → (open_verdict day areas ≡ Passed) × Opened day.file counts.stops counts.connections
opened_passed day areas counts e =
    let a = answering_accepted (open_verdict day areas) counts (counts_of day.file) e in (
      a.0,
      record {
        timetable = (open_ready day areas a.0).timetable;
        stops = ap (λ (k : Counts). k.stops) a.1;
        connections = ap (λ (k : Counts). k.connections) a.1;
      },
    )

-- the refusal of what is given or of the areas
pub opened_refused : (day : Day) (areas : Areas) (n p : ℕ) → refused n p ≡ examined day areas → open_verdict day areas ≡ Refused n p
opened_refused day areas n p e = answering_refused (open_verdict day areas) (counts_of day.file) n p e

module _ (day : Day) (areas : Areas) (ready : Ready day areas) where
  abbrev net : Network
  net = network_by day areas

  abbrev rest : List ℕ
  rest = drop (graph_length day.file) areas.graph

  pub sound : Sound (network_by day areas)
  sound = network_sound day ready.timetable (standing areas) ready.rows.rows

  pub graph_room : graph_length day.file ≤ length areas.graph
  graph_room =
      let l : length (graph_for day (standing areas) ++ rest) ≡ length (graph_for day (standing areas)) + length rest = length-append (graph_for day (standing areas)) rest in
      omega (arith, ap length ready.drawn, graph_long day (standing areas))

  module _ (c : ℕ) (h : c < connections day.file) where
    pub departure_read : departure_in areas.graph c ≡ (network_by day areas).departure c
    unfolding network_of
    departure_read = ap (λ (g : List ℕ). departure_in g c) ready.drawn ∙ departure_within net rest c h

    pub arrival_read : arrival_in areas.graph c ≡ (network_by day areas).arrival c
    unfolding network_of
    arrival_read = ap (λ (g : List ℕ). arrival_in g c) ready.drawn ∙ arrival_within net rest c h

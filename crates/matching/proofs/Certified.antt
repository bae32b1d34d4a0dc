-- An area whose times stand and whose lists are right is the graph area, and conversely. Assumes nothing.
use Rattle.std.proofs.Common.{◌≡◌, ℕ, ◌+◌, ◌-◌, ◌*◌, ◌<◌, ◌≤◌, Bool, true, false, List, ◌++◌, length, get_or, take, sym, ap, ◌∙◌, ⊎_elim, append_assoc, arith, length-take-le, get_or-take, take-take, take_at, ext_get_or}
use Rattle.timetable.specs.File.{connections}
use Rattle.model.specs.Day.{day_of, lent}
use Rattle.model.specs.Least.{tab}
use Rattle.model.specs.Network.{Network}
use Rattle.model.specs.Notices.{rows_of, Standing}
use Rattle.model.specs.Times.{network_of}
use Rattle.model.specs.Graph.{waiting, transfer, first_departure, times, graph_of, graph_size}
use Rattle.model.specs.Drawn.{same, graph_length, graph_for}
use Rattle.timetable.proofs.Tests.{not_both}
use Rattle.model.proofs.ByCases.{by_lt, by_bool, same_test}
use Rattle.model.proofs.Lists.{same_refl, same_eq}
use Rattle.model.proofs.GraphArea.{length_times, in_times, length_graph, waiting_entry, transfer_entry, first_entry}
use Rattle.model.specs.Shown.{shown}
use Rattle.model.proofs.Shown.{times_shown}
use Rattle.timetable.specs.Accepted.{Opened}
use Rattle.boards.proofs.Timed.{sound, departs, arrives, graph_by_times}
use Rattle.links.specs.Telling.{Tells}
use Rattle.certificate.specs.Lists.{ListsRight}

module _ (net : Network) (g : List ℕ) where
  abbrev n : ℕ
  n = net.connections

  abbrev size : ℕ
  size = graph_size net.stops n

  -- the times stand first
  times_first : take size g ≡ graph_of net → take (2 * n) g ≡ times net n
  unfolding graph_of
  times_first q =
      let lists : List ℕ = tab (waiting net) n ++ (tab (transfer net) n ++ tab (first_departure net) net.stops) in
      let parts : graph_of net ≡ times net n ++ lists = simp append_assoc in
      sym (take-take (2 * n) size g (omega arith))
      ∙ ap (λ (l : List ℕ). take (2 * n) l) (q ∙ parts)
      ∙ take_at (times net n) lists (2 * n) (length_times net n)

  -- an entry is that of the graph area
  entry_of : take size g ≡ graph_of net → (i : ℕ) → i < size → get_or g i 0 ≡ get_or (graph_of net) i 0
  entry_of q i h = sym (get_or-take size g i 0 h) ∙ ap (λ (l : List ℕ). get_or l i 0) q

  lists_by : take size g ≡ graph_of net → ListsRight net g
  lists_by q =
      record {
        links = record {
          firsts = λ s h. entry_of q (4 * n + s) (omega arith) ∙ first_entry net s h;
          nexts = λ c h. entry_of q (2 * n + c) (omega arith) ∙ waiting_entry net c h;
        };
        changes = λ c h. entry_of q (3 * n + c) (omega arith) ∙ transfer_entry net c h;
      }

  module _ (front : take (2 * n) g ≡ times net n) (right : ListsRight net g) where
    entry : (i : ℕ) → i < size → get_or g i 0 ≡ get_or (graph_of net) i 0
    entry i h =
        ⊎_elim
        (λ (l : i < 2 * n). sym (get_or-take (2 * n) g i 0 l) ∙ ap (λ (l : List ℕ). get_or l i 0) front ∙ sym (in_times net i l))
        (λ (l : 2 * n ≤ i).
        ⊎_elim
        (λ (k : i < 3 * n).
        let q : 2 * n + (i - 2 * n) ≡ i = omega arith in
        rw q at (right.links.nexts (i - 2 * n) (omega arith) ∙ sym (waiting_entry net (i - 2 * n) (omega arith))))
        (λ (k : 3 * n ≤ i).
        ⊎_elim
        (λ (m : i < 4 * n).
        let q : 3 * n + (i - 3 * n) ≡ i = omega arith in
        rw q at (right.changes (i - 3 * n) (omega arith) ∙ sym (transfer_entry net (i - 3 * n) (omega arith))))
        (λ (m : 4 * n ≤ i).
        let q : 4 * n + (i - 4 * n) ≡ i = omega arith in
        rw q at (right.links.firsts (i - 4 * n) (omega arith) ∙ sym (first_entry net (i - 4 * n) (omega arith))))
        (by_lt i (4 * n)))
        (by_lt i (3 * n)))
        (by_lt i (2 * n))

    graph_by : size ≤ length g → take size g ≡ graph_of net
    graph_by room =
        let long : length (take size g) ≡ size = length-take-le size g room in
        ext_get_or 0 (take size g) (graph_of net) (long ∙ sym (length_graph net)) (λ i l. let h : i < size = omega arith in get_or-take size g i 0 h ∙ entry i h)

-- what tells of the lists of an area at whose front the expected times stand tells of the area
module _ (f notices g : List ℕ) (s n : ℕ) (o : Opened f s n) {C : ℕ} (k : Standing C notices)
    (front : take (2 * n) g ≡ times (network_of (day_of f) (rows_of notices)) n) where
  pub judged : (r : Bool) → graph_length f ≤ length g → Tells r (ListsRight (shown f g) g) → r ≡ same (take (graph_length f) g) (graph_for (day_of f) (rows_of notices))
  judged r room tells =
      let front' : take (2 * connections f) g ≡ times (shown f g) (connections f) =
      rw (times_shown (day_of f) (lent notices g) (sound f notices g s n o k front) (departs f notices g s n o k front) (arrives f notices g s n o k front) (connections f) (omega arith)) (rw o.connections at front) in
      rw (← graph_by_times f notices g s n o k front)
      (same_test r (same (take (graph_length f) g) (graph_of (shown f g)))
      (λ h. rw (graph_by (shown f g) g front' (tells.0 h) room) (same_refl (graph_of (shown f g))))
      (λ h. tells.1 (lists_by (shown f g) g (same_eq _ _ h))))

-- where the times do not stand, the area is another
pub no_times : (f notices g : List ℕ) (n : ℕ) → n ≡ connections f → same (take (2 * n) g) (times (network_of (day_of f) (rows_of notices)) n) ≡ false
    → false ≡ same (take (graph_length f) g) (graph_for (day_of f) (rows_of notices))
unfolding network_of
no_times f notices g n e h =
    let net : Network = network_of (day_of f) (rows_of notices) in
    ⊎_elim
    (λ (q : same (take (graph_length f) g) (graph_for (day_of f) (rows_of notices)) ≡ true).
    let t : take (2 * n) g ≡ times net n = rw e (times_first net g (same_eq _ _ q)) in
    absurd (not_both (rw t (same_refl (times net n))) h))
    (λ q. sym q)
    (by_bool (same (take (graph_length f) g) (graph_for (day_of f) (rows_of notices))))

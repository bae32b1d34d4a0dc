-- Reading the parts of the graph area, alone or with anything behind it. Assumes nothing.
use Rattle.std.proofs.Common.{◌≡◌, ℕ, zero, suc, ◌+◌, ◌*◌, ◌<◌, List, [], ◌∷◌, ◌++◌, length, get_or, refl, ◌∙◌, ⊎_elim, arith, length-append, get_or-append-add}
use lib.ListN.{get_or-append}
use Rattle.model.specs.Least.{tab}
use Rattle.model.specs.Network.{Network}
use Rattle.model.specs.Graph.{waiting, transfer, first_departure, times, graph_of, graph_size}
use Rattle.model.proofs.ByCases.{by_last}
use Rattle.model.proofs.Tab.{length_tab, get_or_tab}

-- an entry of the first of two lists, and of the second
ahead : (xs ys : List ℕ) (n i : ℕ) → length xs ≡ n → i < n → get_or (xs ++ ys) i 0 ≡ get_or xs i 0
ahead xs ys n i l h = get_or-append xs ys 0 i (omega arith)

behind : (xs ys : List ℕ) (n i : ℕ) → length xs ≡ n → get_or (xs ++ ys) (n + i) 0 ≡ get_or ys i 0
behind xs ys n i l = rw (← l) (get_or-append-add xs ys i 0)

module _ (net : Network) where
  -- each connection has two times
  pub length_times : (n : ℕ) → length (times net n) ≡ 2 * n
  unfolding times
  length_times zero = refl
  length_times (suc n) = simp (length-append, length_times n) (omega arith)

  -- c's departure and arrival, j being 0 or 1
  times_entry : (n c j : ℕ) → c < n → j < 2 → get_or (times net n) (2 * c + j) 0 ≡ get_or (net.departure c ∷ net.arrival c ∷ []) j 0
  unfolding times
  times_entry zero c j h k = absurd (omega arith)
  times_entry (suc n) c j h k =
      ⊎_elim
      (λ (l : c < n). ahead (times net n) (net.departure n ∷ net.arrival n ∷ []) (2 * n) (2 * c + j) (length_times n) (omega arith) ∙ times_entry n c j l k)
      (λ q. rw q (behind (times net n) (net.departure n ∷ net.arrival n ∷ []) (2 * n) j (length_times n)))
      (by_last h)

  abbrev n : ℕ
  n = net.connections

  -- the first two parts, and the first three
  abbrev two : List ℕ
  two = times net n ++ tab (waiting net) n

  abbrev three : List ℕ
  three = two ++ tab (transfer net) n

  length_two : length two ≡ 3 * n
  length_two = simp (length-append, length_times n, length_tab) (omega arith)

  length_three : length three ≡ 4 * n
  length_three = simp (length-append, length_times n, length_tab) (omega arith)

  -- how many numbers the graph area has
  pub length_graph : length (graph_of net) ≡ graph_size net.stops net.connections
  unfolding graph_of
  length_graph = simp (length-append, length_times n, length_tab) (omega arith)

  -- an entry of the graph area that stands in its first three parts, two parts, or part
  in_three : (i : ℕ) → i < 4 * n → get_or (graph_of net) i 0 ≡ get_or three i 0
  unfolding graph_of
  in_three i h = ahead three (tab (first_departure net) net.stops) (4 * n) i length_three h

  in_two : (i : ℕ) → i < 3 * n → get_or (graph_of net) i 0 ≡ get_or two i 0
  in_two i h = in_three i (omega arith) ∙ ahead two (tab (transfer net) n) (3 * n) i length_two h

  pub in_times : (i : ℕ) → i < 2 * n → get_or (graph_of net) i 0 ≡ get_or (times net n) i 0
  in_times i h = in_two i (omega arith) ∙ ahead (times net n) (tab (waiting net) n) (2 * n) i (length_times n) h

  module _ (c : ℕ) (h : c < net.connections) where
    -- c's departure
    pub departure_entry : get_or (graph_of net) (2 * c) 0 ≡ net.departure c
    departure_entry =
        let q : 2 * c + 0 ≡ 2 * c = omega arith in
        in_times (2 * c) (omega arith) ∙ (rw q at (times_entry n c 0 h (omega arith)))

    -- c's arrival
    pub arrival_entry : get_or (graph_of net) (2 * c + 1) 0 ≡ net.arrival c
    arrival_entry = in_times (2 * c + 1) (omega arith) ∙ times_entry n c 1 h (omega arith)

    -- c's waiting entry
    pub waiting_entry : get_or (graph_of net) (2 * net.connections + c) 0 ≡ waiting net c
    waiting_entry =
        in_two (2 * n + c) (omega arith) ∙ behind (times net n) (tab (waiting net) n) (2 * n) c (length_times n) ∙ get_or_tab (waiting net) n c 0 h

    -- c's transfer entry
    pub transfer_entry : get_or (graph_of net) (3 * net.connections + c) 0 ≡ transfer net c
    transfer_entry =
        in_three (3 * n + c) (omega arith) ∙ behind two (tab (transfer net) n) (3 * n) c length_two ∙ get_or_tab (transfer net) n c 0 h

  -- a stop's first departure
  pub first_entry : (s : ℕ) → s < net.stops → get_or (graph_of net) (4 * net.connections + s) 0 ≡ first_departure net s
  unfolding graph_of
  first_entry s h =
      behind three (tab (first_departure net) net.stops) (4 * n) s length_three ∙ get_or_tab (first_departure net) net.stops s 0 h

-- the same with anything behind the graph area
module _ (net : Network) (rest : List ℕ) where
  -- what stands behind does not change an entry
  pub graph_front : (i : ℕ) → i < graph_size net.stops net.connections → get_or (graph_of net ++ rest) i 0 ≡ get_or (graph_of net) i 0
  graph_front i h = ahead (graph_of net) rest (graph_size net.stops net.connections) i (length_graph net) h

  module _ (c : ℕ) (h : c < net.connections) where
    -- c's departure
    pub departure_within : get_or (graph_of net ++ rest) (2 * c) 0 ≡ net.departure c
    departure_within = graph_front (2 * c) (omega arith) ∙ departure_entry net c h

    -- c's arrival
    pub arrival_within : get_or (graph_of net ++ rest) (2 * c + 1) 0 ≡ net.arrival c
    arrival_within = graph_front (2 * c + 1) (omega arith) ∙ arrival_entry net c h

    -- c's waiting entry
    pub waiting_within : get_or (graph_of net ++ rest) (2 * net.connections + c) 0 ≡ waiting net c
    waiting_within = graph_front (2 * net.connections + c) (omega arith) ∙ waiting_entry net c h

    -- c's transfer entry
    pub transfer_within : get_or (graph_of net ++ rest) (3 * net.connections + c) 0 ≡ transfer net c
    transfer_within = graph_front (3 * net.connections + c) (omega arith) ∙ transfer_entry net c h

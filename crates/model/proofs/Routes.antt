-- The graph is the model: journeys and the routes over its arcs are the same. Assumes nothing.
use Rattle.std.proofs.Common.{◌≡◌, ℕ, zero, suc, ◌+◌, ◌<◌, ◌≤◌, true, ◌↔◌, List, [], ◌∷◌, sym, refl, ◌∙◌, ⊎_elim, arith}
use Rattle.model.specs.Least.{key}
use Rattle.model.specs.Network.{Network, Sound}
use Rattle.model.specs.Graph.{board, waiting, transfer, Node, departure_of, arrival_of, connection, aboard, wait, change}
use Rattle.model.specs.Journeys.{can_be_first, can_follow, Ends, first, next, Route, start, onto, along}
use Rattle.model.proofs.ByCases.{by_lt}
use Rattle.model.proofs.Follows.{first_means, first_test, Aboard, Change, follow_means, change_follows, aboard_follows}
use Rattle.model.proofs.Journeys.{in_range}
use Rattle.model.proofs.Boards.{Behind, ChangeOn, change_on, on_change, waiting_listed, transfer_listed, entry_at, entry_first}

module _ (net : Network) (sound : Sound net) (a t : ℕ) where
  -- what the list of a route to a node says: at an arrival it is a journey that ends there; at a departure it is empty and
  -- the departure can be the first, or it is a journey from whose end one can change to the departure
  abbrev Reads : Node → List ℕ → Type 0
  Reads (departure_of d) [] = can_be_first net a t d ≡ true
  Reads (departure_of d) (e ∷ js) = Ends net a t (e ∷ js) × Change net e d
  Reads (arrival_of c) [] = ⊥
  Reads (arrival_of c) (e ∷ js) = (c ≡ e) × Ends net a t (e ∷ js)

  -- a journey that ends with c, and then what can follow c
  ahead : (c d : ℕ) (js : List ℕ) → d < net.connections → can_follow net c d ≡ true → Reads (arrival_of c) js → Ends net a t (d ∷ js)
  ahead c d [] h f r = absurd r
  ahead c d (e ∷ js) h f r = next h (rw r.0 at f) r.1

  -- then the connection of the departure
  taken : (c : ℕ) (js : List ℕ) → c < net.connections → Reads (departure_of c) js → Ends net a t (c ∷ js)
  taken c [] h r = first h r
  taken c (e ∷ js) h r = next h (change_follows net e c r.1) r.0

  -- it goes on to a departure that stands behind on the board
  waited : (c d : ℕ) (js : List ℕ) → d < net.connections → Behind net c d → Reads (departure_of c) js → Reads (departure_of d) js
  waited c d [] h w r =
      let f = first_means net a t c r in
      first_test net a t d (w.0 ∙ f.0) (omega (arith, sound.few))
  waited c d (e ∷ js) h w r = (r.0, (w.0 ∙ r.1.0, rw w.0 (omega (arith, sound.few))))

  -- and to a departure that one can change to
  changed : (c d : ℕ) (js : List ℕ) → Change net c d → Reads (arrival_of c) js → Reads (departure_of d) js
  changed c d [] w r = absurd r
  changed c d (e ∷ js) w r = (r.1, rw r.0 at w)

  -- the list of every route says what it should
  reads : {x : Node} {js : List ℕ} → Route net a t x js → Reads x js
  reads (start {c} h s l) = first_test net a t c s l
  reads (onto {js = js} r (connection {c} h)) = (refl, taken c js h (reads r))
  reads (onto {js = js} r (aboard {c} h s)) =
      (refl, ahead c (suc c) js h (aboard_follows net c (suc c) (sound.joins c h s) (s, refl)) (reads r))
  reads (along {js = js} r (wait {c} {d} h q k)) = waited c d js k (entry_at net sound (waiting_listed net sound c) q k) (reads r)
  reads (along {js = js} r (change {c} {d} h q k)) = changed c d js (change_on net c d (entry_at net sound (transfer_listed net sound c (net.to c)) q k)) (reads r)

  -- from a departure along waiting arcs to one that stands behind it on the board; k bounds how far
  wait_until : (k c d : ℕ) (js : List ℕ) → c < net.connections → d < net.connections → board net d ≡ board net c
      → key net.departure c ≤ key net.departure d → key net.departure d ≤ key net.departure c + k
      → Route net a t (departure_of c) js → Route net a t (departure_of d) js
  wait_until zero c d js h l s o p r = let q : d ≡ c = omega (arith, sound.few) in rw q r
  wait_until (suc k) c d js h l s o p r =
      ⊎_elim
      (λ (b : key net.departure c < key net.departure d).
      let w : ℕ = waiting net c in
      let f = entry_first net sound (waiting_listed net sound c) d l (s, b) in
      let m : Behind net c w = entry_at net sound (waiting_listed net sound c) refl f.0 in
      wait_until k w d js f.0 l (s ∙ sym m.0) f.1 (omega (arith, m.1)) (along r (wait h refl f.0)))
      (λ (g : key net.departure d ≤ key net.departure c). let q : d ≡ c = omega (arith, sound.few) in rw q r)
      (by_lt (key net.departure c) (key net.departure d))

  -- along the transfer arc and then along waiting arcs to any departure that one can change to
  change_to : (e c : ℕ) (js : List ℕ) → e < net.connections → c < net.connections → Change net e c → Route net a t (arrival_of e) js → Route net a t (departure_of c) js
  change_to e c js h l m r =
      let d : ℕ = transfer net e in
      let f = entry_first net sound (transfer_listed net sound e (net.to e)) c l (on_change net e c m) in
      let v : ChangeOn net e (net.to e) d = entry_at net sound (transfer_listed net sound e (net.to e)) refl f.0 in
      wait_until (key net.departure c) d c js f.0 l (m.0 ∙ sym v.0) f.1 (omega arith) (along r (change h refl f.0))

  -- along the arc to the next connection of the trip
  stay_on : (e c : ℕ) (js : List ℕ) → c < net.connections → Aboard net e c → Route net a t (arrival_of e) js → Route net a t (arrival_of c) (c ∷ js)
  stay_on e c js h b r = rw b.1 (onto r (aboard (rw b.1 at h) (rw b.1 at b.0)))

  -- every journey is a route
  is_route : {c : ℕ} {js : List ℕ} → Ends net a t (c ∷ js) → Route net a t (arrival_of c) (c ∷ js)
  is_route (first {c} h q) = let f = first_means net a t c q in onto (start h f.0 f.1) (connection h)
  is_route (next {c} {e} {js} h q r) =
      let m = follow_means net e c q in
      ⊎_elim
      (λ b. stay_on e c (e ∷ js) h b (is_route r))
      (λ l. onto (change_to e c (e ∷ js) (in_range net a t r) h (m.0, l) (is_route r)) (connection h))
      m.1

  -- a list of connections is a journey exactly if a route to the arrival of its last one has it
  pub route_iff : (c : ℕ) (js : List ℕ) → Ends net a t (c ∷ js) ↔ Route net a t (arrival_of c) (c ∷ js)
  route_iff c js = (λ e. is_route e, λ r. (reads r).1)

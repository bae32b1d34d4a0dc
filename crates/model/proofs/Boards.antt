-- What the entries of the graph are: of the departures of a board of which something holds, the first by expected departure
-- and then number, or none. Assumes nothing.
use Rattle.std.proofs.Common.{◌≡◌, ℕ, ◌<◌, ◌≤◌, Bool, true, ◌&&◌, eqb, refl, ap, ◌∙◌, inl, inr, arith, ltb-true, lt-ltb, eq-eqb, eqb-true, le-leb, leb-true}
use Rattle.model.specs.Least.{none, key, Least, tab}
use Rattle.model.specs.Network.{Network, Sound}
use Rattle.model.specs.Graph.{board, ready, first_on, waiting, transfer_to, transfer, first_departure}
use Rattle.model.proofs.ByCases.{and_left, and_right, and_both}
use Rattle.model.proofs.Least.{least_is, least_same}
use Rattle.model.proofs.Tab.{tab_same}
use Rattle.model.proofs.Follows.{Change}

-- r is none and P holds of no connection; or P holds of connection r, and of none before it by expected departure and then number
pub data Listed (net : Network) (P : ℕ → Type 0) (r : ℕ) : Type 0 where
  nobody : r ≡ none → ((d : ℕ) → d < net.connections → P d → ⊥) → Listed net P r
  foremost : r < net.connections → P r → ((e : ℕ) → e < net.connections → P e → key net.departure r ≤ key net.departure e) → Listed net P r

-- d is on the same board as c, and later, or in the same minute with a higher number
abbrev pub Behind : Network → ℕ → ℕ → Type 0
Behind net c d = (board net d ≡ board net c) × (key net.departure c < key net.departure d)

-- d is on board b, and leaves when a passenger of e is ready, or later
abbrev pub ChangeOn : Network → ℕ → ℕ → ℕ → Type 0
ChangeOn net e b d = (board net d ≡ b) × (ready net e b ≤ net.departure d)

-- one can change to a departure on the board of the stop, and every change is to one of these
pub change_on : (net : Network) (e d : ℕ) → ChangeOn net e (net.to e) d → Change net e d
change_on net e d p = (p.0, rw (← p.0) at p.1)

pub on_change : (net : Network) (e d : ℕ) → Change net e d → ChangeOn net e (net.to e) d
on_change net e d p = rw (← p.0) (refl, p.1)

module _ (net : Network) (sound : Sound net) where
  -- the first of a board's departures that pass a test, or none
  pub on_board : (b : ℕ) (test : ℕ → Bool) → Least (λ d. eqb (board net d) b && test d) net.departure net.connections (first_on net b test)
  unfolding first_on
  on_board b test = least_is (λ d. eqb (board net d) b && test d) net.departure net.connections (omega (arith, sound.few))

  -- the same with the tests read as a fact
  pub on_board_means : (b : ℕ) (test : ℕ → Bool) (P : ℕ → Type 0) → ((d : ℕ) → board net d ≡ b → test d ≡ true → P d) → ((d : ℕ) → P d → (board net d ≡ b) × (test d ≡ true))
      → Listed net P (first_on net b test)
  on_board_means b test P means passes = read (on_board b test)
    where
      holds : (d : ℕ) → eqb (board net d) b && test d ≡ true → P d
      holds d q = means d (eqb-true _ _ (and_left (eqb (board net d) b) (test d) q)) (and_right (eqb (board net d) b) (test d) q)

      on : (d : ℕ) → P d → eqb (board net d) b && test d ≡ true
      on d p = and_both (eqb (board net d) b) (test d) (eq-eqb _ _ (passes d p).0) (passes d p).1

      read : {r : ℕ} → Least (λ d. eqb (board net d) b && test d) net.departure net.connections r → Listed net P r
      read (inl l) = nobody l.0 (λ d h p. l.1 d h (on d p))
      read (inr f) = foremost f.below (holds _ f.passes) (λ e h p. f.least e h (on e p))

  -- a waiting entry is the next departure of the same board
  pub waiting_listed : (c : ℕ) → Listed net (Behind net c) (waiting net c)
  unfolding waiting
  waiting_listed c = on_board_means (board net c) _ _ (λ d s q. (s, ltb-true _ _ q)) (λ d p. (p.0, lt-ltb _ _ p.1))

  -- a transfer entry is the first departure that a passenger who arrives by c can change to
  pub transfer_listed : (c b : ℕ) → Listed net (ChangeOn net c b) (transfer_to net c b)
  unfolding transfer_to
  transfer_listed c b = on_board_means b _ _ (λ d s q. (s, leb-true _ _ q)) (λ d p. (p.0, le-leb _ _ p.1))

  -- a first departure is the first of its board
  pub first_listed : (b : ℕ) → Listed net (λ d. board net d ≡ b) (first_departure net b)
  unfolding first_departure
  first_listed b = on_board_means b _ _ (λ d p q. p) (λ d p. (p, refl))

  module _ {P : ℕ → Type 0} {r : ℕ} where
    -- an entry that is a connection is one of which P holds
    pub entry_holds : Listed net P r → r < none → (r < net.connections) × P r
    entry_holds (nobody q f) l = absurd (omega arith)
    entry_holds (foremost h p f) l = (h, p)

    -- the same by another name of the entry
    pub entry_at : Listed net P r → {d : ℕ} → r ≡ d → d < net.connections → P d
    entry_at l q h = rw q at (entry_holds l (omega (arith, sound.few))).1

    -- where P holds of a connection, the entry is one and does not come after it
    pub entry_first : Listed net P r → (d : ℕ) → d < net.connections → P d → (r < net.connections) × (key net.departure r ≤ key net.departure d)
    entry_first (nobody q f) d h p = absurd (f d h p)
    entry_first (foremost k q f) d h p = (k, f d h p)

-- two networks agree on what departure lists are made of
pub record Alike (net net' : Network) : Type 0 where
  pub stops : net.stops ≡ net'.stops
  pub connections : net.connections ≡ net'.connections
  pub boards : (c : ℕ) → c < net.connections → board net c ≡ board net' c
  pub to : (c : ℕ) → c < net.connections → net.to c ≡ net'.to c
  pub departure : (c : ℕ) → c < net.connections → net.departure c ≡ net'.departure c
  pub ready : (c b : ℕ) → c < net.connections → ready net c b ≡ ready net' c b

-- entries depend only on the values of connections and stops that there are
module _ (net net' : Network) (few : net.connections ≤ none) (agree : Alike net net') where
  -- the first on a board, by tests that agree
  pub on_board_same : (b : ℕ) (test test' : ℕ → Bool) → ((d : ℕ) → d < net.connections → test d ≡ test' d) → first_on net b test ≡ first_on net' b test'
  unfolding first_on
  on_board_same b test test' same =
      rw (← agree.connections)
      (least_same _ _ net.departure net'.departure net.connections few (λ d h. rw (agree.boards d h, same d h)) agree.departure)

  -- waiting entries
  pub waiting_same : (c : ℕ) → c < net.connections → waiting net c ≡ waiting net' c
  unfolding waiting
  waiting_same c h = rw (← agree.boards c h) (on_board_same (board net c) _ _ (λ d k. rw (agree.departure c h, agree.departure d k)))

  -- transfer entries
  pub transfer_to_same : (c b : ℕ) → c < net.connections → transfer_to net c b ≡ transfer_to net' c b
  unfolding transfer_to
  transfer_to_same c b h = on_board_same b _ _ (λ d k. rw (agree.departure d k, agree.ready c b h))

  pub transfer_same : (c : ℕ) → c < net.connections → transfer net c ≡ transfer net' c
  transfer_same c h = transfer_to_same c (net.to c) h ∙ ap (transfer_to net' c) (agree.to c h)

  -- first departures
  pub first_same : (s : ℕ) → first_departure net s ≡ first_departure net' s
  unfolding first_departure
  first_same s = on_board_same s _ _ (λ d k. refl)

  -- and so do the lists of them
  pub waiting_list_same : tab (waiting net) net.connections ≡ tab (waiting net') net'.connections
  waiting_list_same = tab_same (waiting net) (waiting net') net.connections net'.connections agree.connections waiting_same

  pub transfer_list_same : tab (transfer net) net.connections ≡ tab (transfer net') net'.connections
  transfer_list_same = tab_same (transfer net) (transfer net') net.connections net'.connections agree.connections transfer_same

  pub first_list_same : tab (first_departure net) net.stops ≡ tab (first_departure net') net'.stops
  first_list_same = tab_same (first_departure net) (first_departure net') net.stops net'.stops agree.stops (λ s h. first_same s)

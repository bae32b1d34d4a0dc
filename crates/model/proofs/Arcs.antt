-- What waiting and transfer entries say in terms of places in the order of departures, and that every arc leads forward
-- (document 01). Assumes nothing.
use Rattle.std.proofs.Common.{◌≡◌, ℕ, suc, ◌<◌, ◌≤◌, sym, inl, inr, ⊎_elim, arith}
use Rattle.model.specs.Least.{none, rank}
use Rattle.model.specs.Network.{Network, Sound}
use Rattle.model.specs.Graph.{board, waiting, transfer, Node, Arc, connection, aboard, wait, change, Forward}
use Rattle.model.proofs.ByCases.{by_lt}
use Rattle.model.proofs.Rank.{rank_less}
use Rattle.model.proofs.Follows.{Change}
use Rattle.model.proofs.Boards.{Behind, change_on, waiting_listed, transfer_listed, entry_holds, entry_at}

-- c's place in the order of departures
abbrev pub place_of : Network → ℕ → ℕ
place_of net c = rank net.departure net.connections c

-- w is on the same board as c, and has a later place
pub record Waits (net : Network) (c w : ℕ) : Type 0 where
  pub within : w < net.connections
  pub same_board : board net w ≡ board net c
  pub place : place_of net c < place_of net w
  pub time : net.departure c ≤ net.departure w

module _ (net : Network) (sound : Sound net) where
  module _ (c : ℕ) (h : c < net.connections) where
    -- a waiting entry is of the same board and later
    pub waits : waiting net c < none → Waits net c (waiting net c)
    waits l =
        let s : (waiting net c < net.connections) × Behind net c (waiting net c) = entry_holds net sound (waiting_listed net sound c) l in
        record {
          within = s.0;
          same_board = s.1.0;
          place = rank_less net.departure net.connections c (waiting net c) h s.1.1;
          time = omega (arith, sound.few);
        }

    -- one can change to a transfer entry
    pub moves : transfer net c < none → (transfer net c < net.connections) × Change net c (transfer net c)
    moves l = let e = entry_holds net sound (transfer_listed net sound c (net.to c)) l in (e.0, change_on net c _ e.1)

  -- every arc leads forward
  pub arcs_forward : (x y : Node) → Arc net x y → Forward net x y
  arcs_forward x y (connection {c} h) = inl (sound.forward c h)
  arcs_forward x y (aboard {c} h s) = inl (omega (arith, sound.keeps c h s, sound.forward (suc c) h))
  arcs_forward x y (wait {c} {d} h q k) =
      let s : Behind net c d = entry_at net sound (waiting_listed net sound c) q k in
      ⊎_elim
      (λ (l : net.departure c < net.departure d). inl l)
      (λ (g : net.departure d ≤ net.departure c). inr (omega (arith, sound.few), (sym s.0, omega (arith, sound.few))))
      (by_lt (net.departure c) (net.departure d))
  arcs_forward x y (change {c} {d} h q k) =
      let s : Change net c d = change_on net c d (entry_at net sound (transfer_listed net sound c (net.to c)) q k) in
      ⊎_elim
      (λ (l : net.arrival c < net.departure d). inl l)
      (λ (g : net.departure d ≤ net.arrival c). inr (omega arith, tt))
      (by_lt (net.arrival c) (net.departure d))

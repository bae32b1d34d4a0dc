-- The sweep over the events of a network from the last place down. At one time the ready events have the lower numbers, so at c's
-- ready event the departures passed are those from that time on. Assumes nothing.
use Rattle.std.proofs.Common.{◌≡◌, ℕ, ◌+◌, ◌<◌, ◌≤◌, List, length, get_or, take, set, sym, refl, ◌∙◌, inl, inr, ⊎_elim, arith, length-take-le, get_or-take}
use Rattle.std.proofs.lemmas.Grind.{common_steps}
use Rattle.std.specs.List.{push}
use Rattle.model.specs.Least.{none, key}
use Rattle.model.specs.Network.{Network}
use Rattle.model.specs.Graph.{board, transfer, first_departure}
use Rattle.model.proofs.Boards.{transfer_listed, first_listed}
use Rattle.model.proofs.PlaceOrder.{place_order, place_same}
use Rattle.model.proofs.Tab.{tab_is}
use Rattle.model.proofs.ByCases.{by_eq}
use Rattle.sorting.specs.Order.{Each, Slot}
use Rattle.departures.specs.Events.{EventOrder}
use Rattle.lists.specs.Lists.{Falling, Departed}
use Rattle.transfers.specs.Transfers.{Transfers}
use Rattle.lists.proofs.Heads.{Head, Entered, Alike, More, entered_alike, entered_more, listed_one, head_alike, head_more, falling_alike, falling_more}

-- the last of the first numbers of a list
pub last_of_front : (l front rest : List ℕ) (x : ℕ) → front ≡ take (length front) l → front ≡ push rest x
    → (length front ≡ length rest + 1) × (rest ≡ take (length rest) l) × (x ≡ get_or l (length rest) 0)
last_of_front l front rest x is last =
    let long : length front ≡ length rest + 1 = grind (arith, common_steps) in
    let r : rest ≡ take (length rest) front = grind (arith, common_steps) in
    let v : x ≡ get_or front (length rest) 0 = grind (arith, common_steps) in
    (long, grind (arith, common_steps), grind (arith, common_steps))

-- the numbers below n whose place is i or higher
abbrev pub Passed : ℕ → (ℕ → ℕ) → ℕ → ℕ → Type 0
Passed n place i d = (d < n) × (i ≤ place d)

module _ {n : ℕ} {place : ℕ → ℕ} {i : ℕ} where
  -- none has the next place
  passed_alike : ((d : ℕ) → d < n → place d ≡ i → ⊥) → Alike (Passed n place (i + 1)) (Passed n place i)
  passed_alike free =
      record {
        to = λ d p. (p.0, omega (arith, p.1));
        back = λ d p. (p.0, let ne = free d p.0 in omega (arith, p.1));
      }

  -- c alone has it
  passed_more : {c : ℕ} → c < n → place c ≡ i → ((d : ℕ) → d < n → place d ≡ place c → d ≡ c) → More (Passed n place (i + 1)) (Passed n place i) c
  passed_more {c} h here one =
      record {
        kept = λ d p. (p.0, omega (arith, p.1));
        new = (h, omega arith);
        only = λ d p. ⊎_elim (λ q. inl (one d p.0 (q ∙ sym here))) (λ ne. inr (p.0, omega (arith, p.1))) (by_eq (place d) i);
      }

-- the departures of a network by the places of its events
abbrev pub leaves : Network → (ℕ → ℕ) → ℕ → ℕ
leaves net place c = place (net.connections + c)

-- what the sweep has done when it has passed the places from i on
pub record Swept (net : Network) (place : ℕ → ℕ) (i k : ℕ) (heads departed part : List ℕ) : Type 0 where
  pub first : Each (Head net (Passed net.connections (leaves net place) i)) heads
  pub gone : Falling net (Passed net.connections (leaves net place) i) k departed
  pub entered : Each (Entered (transfer net) (Passed net.connections place i)) part

module _ {net : Network} {order : List ℕ} (o : EventOrder net order) where
  abbrev n : ℕ
  n = net.connections

  abbrev place : ℕ → ℕ
  place = o.ordered.place

  few : n + n ≤ none
  few = omega (arith, o.sound.few)

  -- a place is one event's, and a lower place is an earlier time or a lower number
  one : (e c : ℕ) → e < n + n → c < n + n → place e ≡ place c → e ≡ c
  one = place_same o.time (n + n) place few o.ordered.rises

  order_of : (e c : ℕ) → e < n + n → c < n + n → place e < place c → key o.time e < key o.time c
  order_of = place_order o.time (n + n) place few o.ordered.rises

  -- the last of the first slots
  pub next_slot : {front : List ℕ} (rest : List ℕ) {x : ℕ} → length front ≤ n + n → front ≡ take (length front) order → front ≡ push rest x → Slot place (n + n) (length rest) x
  next_slot {front} rest {x} h is last =
      let next = last_of_front order front rest x is last in
      rw next.2 (o.ordered.slots (length rest) (omega (arith, next.0)))

  -- what is no empty slot is an event
  pub event_below : {i x : ℕ} → Slot place (n + n) i x → x < none → x < n + n
  event_below slot h = ⊎_elim (λ w. omega (arith, w.0)) (λ w. w.0) slot

  -- the head of the board where c arrives when the sweep comes to c's ready event
  transfer_is : (i c x : ℕ) → c < n → place c ≡ i → Head net (Passed n (leaves net place) (i + 1)) (net.to c) x → x ≡ transfer net c
  transfer_is i c x h here head =
      listed_one net o.sound
      (λ d l w. (
        w.0,
        let b = order_of c (n + d) (omega arith) (omega arith) (omega (arith, w.1.1)) in
            omega (arith, o.events.readies c h, o.events.departures d l, few),
      ))
      (λ d l w. (
        w.0,
        (l, let b = o.ordered.rises c (n + d) (omega arith) (omega arith) (omega (arith, w.1, o.events.readies c h, o.events.departures d l)) in omega arith),
      ))
      head
      (transfer_listed net o.sound c (net.to c))

  module _ {k : ℕ} {heads departed part : List ℕ} where
    -- x stands in the next slot
    module _ {i x : ℕ} (old : Swept net place (i + 1) k heads departed part) (slot : Slot place (n + n) i x) where
      -- an event has that place
      slot_place : (e : ℕ) → x ≡ e → e < n + n → place e ≡ i
      slot_place e q h = ⊎_elim (λ w. absurd (omega (arith, w.0, few))) (λ w. rw q at w.1) slot

      -- an empty slot is no event's place
      pub swept_skip : none ≤ x → Swept net place i k heads departed part
      swept_skip q =
          let free : (e : ℕ) → e < n + n → place e ≡ i → ⊥ = ⊎_elim (λ w. w.1) (λ w. absurd (omega (arith, w.0, few))) slot in
          let departures = passed_alike {place = leaves net place} {i = i} (λ (d : ℕ) (h : d < n). free (n + d) (omega arith)) in
          record {
            first = head_alike net departures heads old.first;
            gone = falling_alike net departures departed old.gone;
            entered = entered_alike (transfer net) (passed_alike (λ (d : ℕ) (h : d < n). free d (omega arith))) part old.entered;
          }

      -- x's passenger is ready
      pub swept_ready : x < n → net.to x < length heads → Swept net place i k heads departed (set part x (get_or heads (net.to x) 0))
      swept_ready h b =
          let here : place x ≡ i = slot_place x refl (omega arith) in
          let departures = passed_alike {place = leaves net place} {i = i} (λ (d : ℕ) (l : d < n) q. omega (arith, one x (n + d) (omega arith) (omega arith) (here ∙ sym q))) in
          record {
            first = head_alike net departures heads old.first;
            gone = falling_alike net departures departed old.gone;
            entered = entered_more (transfer net) (passed_more h here (λ (d : ℕ) (l : d < n) q. one d x (omega arith) (omega arith) q)) (transfer_is i x _ h here (old.first (net.to x) b)) part old.entered;
          }

      -- c departs
      pub swept_depart : (c : ℕ) → c < n → x ≡ n + c → k < length departed → Swept net place i (k + 1) (set heads (board net c) c) (set departed k c) part
      swept_depart c h q room =
          let here : leaves net place c ≡ i = slot_place (n + c) q (omega arith) in
          let departures = passed_more {place = leaves net place} h here (λ (d : ℕ) (l : d < n) e. omega (arith, one (n + d) (n + c) (omega arith) (omega arith) e)) in
          let before : (d : ℕ) → Passed n (leaves net place) (i + 1) d → key net.departure c < key net.departure d =
          λ d p.
          let b = order_of (n + c) (n + d) (omega arith) (omega (arith, p.0)) (omega (arith, p.1)) in
          omega (arith, o.events.departures c h, o.events.departures d p.0) in
          record {
            first = head_more net departures before h heads old.first;
            gone = falling_more net departures before departed room old.gone;
            entered = entered_alike (transfer net) (passed_alike (λ (d : ℕ) (l : d < n) e. omega (arith, one d (n + c) (omega arith) (omega arith) (e ∙ sym here)))) part old.entered;
          }

    -- after the last turn
    pub swept_end : {i : ℕ} → Swept net place i k heads departed part → i ≡ 0 → length heads ≡ net.stops → length part ≡ net.connections → Transfers net k heads departed part
    swept_end {i} swept z lh lp =
        record {
          transfer_entries = tab_is (transfer net) n 0 part lp (λ c h. swept.entered c (omega arith) (h, omega arith));
          first_departures = tab_is (first_departure net) net.stops 0 heads lh (λ b h. listed_one net o.sound (λ d l w. w.0) (λ d l w. (w, (l, omega arith))) (swept.first b (omega arith)) (first_listed net o.sound b));
          departures = record { sound = o.sound; falling = falling_alike net (record { to = λ d p. p.0; back = λ d p. (p, omega arith) }) departed swept.gone };
        }

-- the departures that were found, without the rest of the list
pub departed_front : {net : Network} {k : ℕ} {heads departed part : List ℕ} → Transfers net k heads departed part → Departed net (length (take k departed)) (take k departed)
departed_front {net} {k} {heads} {departed} t =
    let o = t.departures.falling in
    let room : length (take k departed) ≡ k = length-take-le k departed o.room in
    let front : (j : ℕ) → j < k → get_or (take k departed) j 0 ≡ get_or departed j 0 = λ j h. get_or-take k departed j 0 h in
    record {
      sound = t.departures.sound;
      falling = rw room (record {
        room = omega arith;
        each = λ j h. rw (front j h) (o.each j h);
        all = λ d q. let w = o.all d q in (w.0, w.1, front w.0 w.1 ∙ w.2);
        falls = λ i j h b. grind (arith, front i, front j, o.falls i j);
      });
    }

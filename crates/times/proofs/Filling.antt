-- The loop that fills the times: what one turn does, and that its last leaves the whole list. Assumes nothing.
use Rattle.std.proofs.Common.{◌≡◌, ℕ, zero, suc, ◌+◌, ◌*◌, ◌<◌, ◌≤◌, true, false, List, [], ◌∷◌, ◌++◌, length, drop, set, sym, refl, ◌∙◌, ⊎_elim, add-one, arith, length-append, length-drop, drop-drop, take_at}
use lib.Seq.{drop-append-add, sets-eq}
use Rattle.timetable.specs.File.{connections, stays_aboard}
use Rattle.model.specs.Network.{Network, last_expected}
use Rattle.model.specs.Notices.{most_standing}
use Rattle.model.specs.Graph.{times}
use Rattle.model.specs.Times.{Conditions, expected_departure, expected_arrival}
use Rattle.model.proofs.ByCases.{by_bool}
use Rattle.model.proofs.GraphArea.{length_times}
use Rattle.model.proofs.Times.{first_starts, departure_own, departure_after, arrival_most}
use Rattle.timetable.specs.Accepted.{Opened}
use Rattle.times.specs.Times.{conditions_in, Delays, departs_at}

-- the departure by the arrival of the connection before
pub departs_is : (f : List ℕ) (conditions : Conditions) (c before : ℕ) → ((e : ℕ) → c ≡ suc e → before ≡ expected_arrival f conditions e)
    → departs_at f c (conditions.primary c) before ≡ expected_departure f conditions c
departs_is f conditions zero before h = rw (first_starts f) (sym (departure_own f conditions zero (first_starts f)))
departs_is f conditions (suc e) before h =
    ⊎_elim
    (λ (s : stays_aboard f (suc e) ≡ true). rw (s, h e refl) (sym (departure_after f conditions e s)))
    (λ (s : stays_aboard f (suc e) ≡ false). rw s (sym (departure_own f conditions (suc e) s)))
    (by_bool (stays_aboard f (suc e)))

-- no arrival is above the last minute of a time in force
pub arrives_by : (f : List ℕ) (s n : ℕ) (primaries : List ℕ) → Opened f s n → Delays primaries n → (c : ℕ) → c < n
    → expected_arrival f (conditions_in primaries) c ≤ last_expected
arrives_by f s n primaries o d c h =
    let k : c < connections f = omega (arith, o.connections) in
    omega (arith, o.timetable.within c k, arrival_most f o.timetable (conditions_in primaries) most_standing c (λ e l. d.most e (omega (arith, o.connections))) k)

-- one turn
times_turn : (net : Network) (c : ℕ) (area : List ℕ) → 2 * c + 1 < length area
    → set (set (times net c ++ drop (2 * c) area) (2 * c) (net.departure c)) (2 * c + 1) (net.arrival c) ≡ times net (c + 1) ++ drop (2 * (c + 1)) area
unfolding times
times_turn net c area h =
    let l : length (times net c) ≡ 2 * c = length_times net c in
    let n : 2 * (c + 1) ≡ 2 * c + 2 = omega arith in
    let p : drop (2 * c + 2) (times net c ++ drop (2 * c) area) ≡ drop (2 * c + 2) area =
    (rw l at (drop-append-add (times net c) (drop (2 * c) area) 2)) ∙ drop-drop 2 (2 * c) area in
    rw (n, add-one c, add-one (2 * c))
    (sets-eq (net.departure c ∷ net.arrival c ∷ []) (times net c ++ drop (2 * c) area) (2 * c) (rw (length-append, length-drop, l) (omega arith))
    ∙ rw (take_at (times net c) (drop (2 * c) area) (2 * c) l, p))

-- one turn in the code's numbers
pub times_more : (net : Network) (c departure arrival : ℕ) (area area₀ : List ℕ) → area ≡ times net c ++ drop (2 * c) area₀ → 2 * c + 1 < length area₀
    → departure ≡ net.departure c → arrival ≡ net.arrival c
    → set (set area (2 * c) departure) (2 * c + 1) arrival ≡ times net (c + 1) ++ drop (2 * (c + 1)) area₀
times_more net c departure arrival area area₀ e l p q = rw (e, p, q) (times_turn net c area₀ l)

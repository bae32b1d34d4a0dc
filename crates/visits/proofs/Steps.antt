-- The steps of the code, in terms of lists: an offer, a visit and a turn. Assumes nothing.
use Rattle.std.proofs.Common.{◌≡◌, ℕ, ◌<◌, ◌≤◌, min, true, false, ltb, List, length, get_or, set, sym, ⊎_elim, arith, length-set, le-ltb, lt-ltb}
use lib.Seq.{set-get_or, set_out}
use Rattle.model.specs.Least.{none}
use Rattle.model.specs.Network.{Network}
use Rattle.model.specs.Graph.{waiting, transfer}
use Rattle.model.proofs.Lists.{inside}
use Rattle.model.proofs.ByCases.{by_bool}
use Rattle.settling.specs.Settled.{settled}
use Rattle.visits.specs.Visits.{offered, passed_on, visited, turned}

-- an offer as the code makes it
module _ (l : List ℕ) (x e : ℕ) where
  -- a lower number is stored
  pub offer_lower : x < length l → e < get_or l x 0 → set l x e ≡ offered l x e
  unfolding offered
  offer_lower h k =
      let q : min (get_or l x none) e ≡ e = omega (arith, inside l x none 0 h) in
      rw q

  -- any other is not
  pub offer_higher : x < length l → get_or l x 0 ≤ e → l ≡ offered l x e
  unfolding offered
  offer_higher h k =
      let q : min (get_or l x none) e ≡ get_or l x none = omega (arith, inside l x none 0 h) in
      rw (q, set-get_or)

  -- nor is one offered past the end
  pub offer_past : length l ≤ x → l ≡ offered l x e
  unfolding offered
  offer_past h = sym (set_out l x _ h)

-- the visit and the turn as the code makes them
module _ (net : Network) (a t : ℕ) (work : List ℕ) (d : ℕ) where
  -- what has been collected is passed on, and d gets its entry
  pub passed_on_is : d < length work → (w m : ℕ) (one : List ℕ) → w ≡ waiting net d → m ≡ settled net a t work d → one ≡ offered work w (get_or work d 0)
      → set one d m ≡ passed_on net a t work d
  unfolding passed_on
  passed_on_is h w m one ew em e =
      let q : get_or work d 0 ≡ get_or work d none = inside work d 0 none h in
      rw (e, ew, em, q)

  -- a reached connection is offered along its transfer arc
  pub visit_reached : (x m : ℕ) (two three : List ℕ) → x ≡ transfer net d → m ≡ settled net a t work d → two ≡ passed_on net a t work d → m < none → three ≡ offered two x d
      → three ≡ visited net a t work d
  unfolding visited
  visit_reached x m two three ex em e2 l e3 =
      let q : ltb (settled net a t work d) none ≡ true = lt-ltb (settled net a t work d) none (omega arith) in
      rw (e3, e2, ex, q)

  -- one that is not reached is not
  pub visit_unreached : (m : ℕ) (two : List ℕ) → m ≡ settled net a t work d → two ≡ passed_on net a t work d → none ≤ m → two ≡ visited net a t work d
  unfolding visited
  visit_unreached m two em e2 l =
      let q : ltb (settled net a t work d) none ≡ false = le-ltb (settled net a t work d) none (omega arith) in
      rw (e2, q)

  -- no entry comes or goes
  pub length_passed_on : length (passed_on net a t work d) ≡ length work
  unfolding passed_on offered
  length_passed_on = simp length-set

  pub length_visited : length (visited net a t work d) ≡ length work
  unfolding visited offered
  length_visited =
      ⊎_elim (λ q. rw q (simp length-set length_passed_on)) (λ q. rw q length_passed_on) (by_bool (ltb (settled net a t work d) none))

  -- a slot that holds a connection is visited
  pub turn_visits : d < none → visited net a t work d ≡ turned net a t work d
  unfolding turned
  turn_visits l = rw (lt-ltb d none l)

  -- one that holds none is passed over
  pub turn_skips : none ≤ d → work ≡ turned net a t work d
  unfolding turned
  turn_skips l = rw (le-ltb d none l)

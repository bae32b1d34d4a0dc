-- The connections of rows that are right: trips from 0 with no gap, each connection of a trip from where the one before it goes.
-- Assumes nothing.
use Rattle.std.proofs.Common.{◌≡◌, ℕ, zero, suc, ◌<◌, Bool, true, false, not, ◌||◌, ◌⊎◌, List, [], ◌∷◌, length, sym, refl, inl, inr, ⊎_elim, arith, eqb-true}
use borrow.Author.Tests.{eqb-false}
use Rattle.refusals.specs.Answers.{refuse_if, Passed}
use Rattle.timetable.proofs.Tests.{by_bool, negated}
use Rattle.timetable.proofs.Order.{passed_not_refused, else_passed, rule}
use Rattle.refusals.specs.RefusalNumber as refusal
use Rattle.gtfs.specs.Feed.{Connection, may_follow, same_trip, alone_verdict, connection_of, connections_of}
use Rattle.gtfs.specs.declared.StopTime.{StopTime}
use Rattle.gtfs.proofs.RowsRead.{Follow}
use Rattle.feed_meanings.specs.Texts.{GoodText}
use Rattle.feed_meanings.specs.Imports.{connection_at}
use Rattle.feed_meanings.proofs.Order.{follows, first, follow_iff}
use Rattle.feed_meanings.proofs.Alone.{alone_passed}

-- a connection goes on from another, or begins the next trip
abbrev pub Link : Connection → Connection → Type 0
Link c next = ((next.trip ≡ c.trip) × (next.from ≡ c.to)) ⊎ (next.trip ≡ suc c.trip)

abbrev Links : Connection → List Connection → Type 0
Links c [] = Unit {0}
Links c (next ∷ cs) = Link c next × Links next cs

-- a row that is not alone, where the next row is given
not_alone : (k : ℕ) (joined : Bool) (row next : StopTime) (rows : List StopTime) → alone_verdict k joined (row ∷ next ∷ rows) ≡ Passed
    → (joined || same_trip row next ≡ true) × (alone_verdict (suc k) (same_trip row next) (next ∷ rows) ≡ Passed)
unfolding alone_verdict
not_alone k joined row next rows h =
    let e = (else_passed (refuse_if (not (joined || same_trip row next)) refusal.wrong_text_row k) _).0 h in
    ((rule (not (joined || same_trip row next)) refusal.wrong_text_row k (negated (joined || same_trip row next))).keeps e.0, e.1)

only_row : (k : ℕ) (row : StopTime) → alone_verdict k false (row ∷ []) ≡ Passed → ⊥
unfolding alone_verdict
only_row k row h = passed_not_refused h refl

-- the connections of two rows and those after them
same_connections : (row next : StopTime) (rows : List StopTime) → same_trip row next ≡ true
    → connections_of (row ∷ next ∷ rows) ≡ connection_of row next ∷ connections_of (next ∷ rows)
unfolding connections_of
same_connections row next rows h = rw h

other_connections : (row next : StopTime) (rows : List StopTime) → same_trip row next ≡ false
    → connections_of (row ∷ next ∷ rows) ≡ connections_of (next ∷ rows)
unfolding connections_of
other_connections row next rows h = rw h

-- a row of another trip begins the next one
begins : (row next : StopTime) → same_trip row next ≡ false → may_follow (suc row.trip) row.sequence next ≡ true
    → next.trip ≡ suc row.trip
begins row next h m =
    ⊎_elim (λ g. absurd (eqb-false row.trip next.trip h (sym g.same_trip_lem))) (λ e. e) ((follows row next).0 m)

-- those after a connection to a row
linked_same : (c : Connection) (row next : StopTime) (rows : List StopTime) → same_trip row next ≡ true → Link c (connection_of row next)
    → Links (connection_of row next) (connections_of (next ∷ rows)) → Links c (connections_of (row ∷ next ∷ rows))
linked_same c row next rows h l ls = rw (same_connections row next rows h) (l, ls)

linked : (k : ℕ) (c : Connection) (row : StopTime) (rows : List StopTime) → c.trip ≡ row.trip → c.to ≡ row.stop
    → Follow (suc row.trip) row.sequence rows → alone_verdict k true (row ∷ rows) ≡ Passed → Links c (connections_of (row ∷ rows))
unfolding connections_of
linked k c row [] t s o a = tt
linked k c row (next ∷ []) t s o a =
    let n = not_alone k true row next [] a in
    ⊎_elim
    (λ h. linked_same c row next [] h (inl (sym t, sym s)) tt)
    (λ h. absurd (only_row (suc k) next (rw h at n.1)))
    (by_bool (same_trip row next))
linked k c row (next ∷ third ∷ rows) t s o a =
    let n = not_alone k true row next (third ∷ rows) a in
    ⊎_elim
    (λ h.
    linked_same c row next (third ∷ rows) h (inl (sym t, sym s))
    (linked (suc k) (connection_of row next) next (third ∷ rows) (eqb-true row.trip next.trip h) refl o.1 (rw h at n.1)))
    (λ h.
    let m = not_alone (suc k) false next third rows (rw h at n.1) in
    let e = begins row next h o.0 in
    rw (other_connections row next (third ∷ rows) h)
    (linked_same c next third rows m.0 (inr (rw t e))
    (linked (suc (suc k)) (connection_of next third) third rows (eqb-true next.trip third.trip m.0) refl o.1.1
    (rw m.0 at m.1))))
    (by_bool (same_trip row next))

-- those of all rows
abbrev FirstLinks : List Connection → Type 0
FirstLinks [] = Unit {0}
FirstLinks (c ∷ cs) = (c.trip ≡ 0) × Links c cs

first_links : (rows : List StopTime) → Follow 0 0 rows → alone_verdict 1 false rows ≡ Passed → FirstLinks (connections_of rows)
unfolding connections_of
first_links [] o a = tt
first_links (row ∷ []) o a = tt
first_links (row ∷ next ∷ rows) o a =
    let n = not_alone 1 false row next rows a in
    rw (same_connections row next rows n.0) (
      (first row).0 o.0,
      linked 2 (connection_of row next) next rows (eqb-true row.trip next.trip n.0) refl o.1.1 (rw n.0 at n.1),
    )

-- at their places
link_at : (c : Connection) (cs : List Connection) → Links c cs → (k : ℕ) → k < length cs
    → Link (connection_at (c ∷ cs) k) (connection_at (c ∷ cs) (suc k))
link_at c [] l k h = absurd (omega arith)
link_at c (next ∷ cs) l zero h = l.0
link_at c (next ∷ cs) l (suc k) h = link_at next cs l.1 k (omega arith)

first_at : (cs : List Connection) → FirstLinks cs → 0 < length cs → (connection_at cs 0).trip ≡ 0
first_at [] l h = absurd (omega arith)
first_at (c ∷ cs) l h = l.0

links_at : (cs : List Connection) → FirstLinks cs → (k : ℕ) → suc k < length cs → Link (connection_at cs k) (connection_at cs (suc k))
links_at [] l k h = absurd (omega arith)
links_at (c ∷ cs) l k h = link_at c cs l.1 k (omega arith)

-- the connections of a good text
module _ {text : List ℕ} {rows : List StopTime} (g : GoodText text rows) where
  good_links : FirstLinks (connections_of rows)
  good_links =
      let o = g.whole.in_order in
      first_links rows ((follow_iff rows).1 o) ((alone_passed rows o).1 g.none_alone)

  pub first_trip : 0 < length (connections_of rows) → (connection_at (connections_of rows) 0).trip ≡ 0
  first_trip h = first_at (connections_of rows) good_links h

  pub next_trip : (c : ℕ) → suc c < length (connections_of rows)
      → Link (connection_at (connections_of rows) c) (connection_at (connections_of rows) (suc c))
  next_trip c h = links_at (connections_of rows) good_links c h

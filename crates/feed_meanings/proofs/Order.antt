-- Rows in order, one after the other. Assumes nothing.
use Rattle.std.proofs.Common.{◌≡◌, ℕ, zero, suc, ◌<◌, ◌≤◌, true, ◌&&◌, eqb, ltb, ◌⊎◌, ◌↔◌, List, [], ◌∷◌, ◌++◌, length, ap, inl, inr, ⊎_elim, arith, ltb-true, lt-ltb, eq-eqb, eqb-true}
use Rattle.timetable.proofs.Tests.{by_lt, or_cases, or_left, or_right, and_left, and_right, and_both}
use Rattle.gtfs.specs.Feed.{may_follow}
use Rattle.gtfs.specs.declared.StopTime.{StopTime}
use Rattle.gtfs.proofs.RowsRead.{Follow}
use Rattle.feed_meanings.specs.Texts.{row_at, GoesOn, InPlace, InOrder}

-- the trips begun and the last stop_sequence after some rows
abbrev pub trips_after : ℕ → List StopTime → ℕ
trips_after trips [] = trips
trips_after trips (row ∷ rows) = trips_after (suc row.trip) rows

abbrev pub sequence_after : ℕ → List StopTime → ℕ
sequence_after sequence [] = sequence
sequence_after sequence (row ∷ rows) = sequence_after row.sequence rows

-- what may follow a row, and what may be the first
pub follows : (row next : StopTime)
    → (may_follow (suc row.trip) row.sequence next ≡ true) ↔ (GoesOn row next ⊎ (next.trip ≡ suc row.trip))
follows row next =
    let begins = eqb next.trip (suc row.trip) in
    let same = eqb (suc next.trip) (suc row.trip) in
    let rises = ltb row.sequence next.sequence in (
      λ h.
          ⊎_elim
          (λ e. inr (eqb-true next.trip (suc row.trip) e))
          (λ e.
          inl
          (record {
            same_trip_lem = let s = eqb-true (suc next.trip) (suc row.trip) (and_left same rises e) in omega arith;
            rises = ltb-true row.sequence next.sequence (and_right same rises e);
          }))
          (or_cases begins (same && rises) h),
      ⊎_elim
          (λ g.
          or_right begins (same && rises)
          (and_both same rises
          (eq-eqb (suc next.trip) (suc row.trip) (ap suc g.same_trip_lem))
          (lt-ltb row.sequence next.sequence g.rises)))
          (λ e. or_left begins (same && rises) (eq-eqb next.trip (suc row.trip) e)),
    )

pub first : (row : StopTime) → (may_follow 0 0 row ≡ true) ↔ (row.trip ≡ 0)
first row =
    let begins = eqb row.trip 0 in
    let same = eqb (suc row.trip) 0 in
    let rises = ltb 0 row.sequence in (
      λ h.
          ⊎_elim
          (λ e. eqb-true row.trip 0 e)
          (λ e. absurd (let s = eqb-true (suc row.trip) 0 (and_left same rises e) in omega arith))
          (or_cases begins (same && rises) h),
      λ e. or_left begins (same && rises) (eq-eqb row.trip 0 e),
    )

-- what holds of the first place and of each later one
first_and_next : (P : ℕ → Type 0) (n : ℕ) → P 0 → ((k : ℕ) → k < n → P (suc k)) → (k : ℕ) → k < suc n → P k
first_and_next P n f g zero l = f
first_and_next P n f g (suc k) l = g k (omega arith)

-- rows after a row, each in its place
follow_after : (row : StopTime) (rows : List StopTime)
    → Follow (suc row.trip) row.sequence rows ↔ ((k : ℕ) → k < length rows → InPlace (row ∷ rows) (suc k))
follow_after row [] = (λ o k l. absurd (omega arith), λ p. tt)
follow_after row (next ∷ rows) = (
  λ o.
      first_and_next (λ (k : ℕ). InPlace (row ∷ next ∷ rows) (suc k)) (length rows)
      ((follows row next).0 o.0)
      ((follow_after next rows).0 o.1),
  λ p. ((follows row next).1 (p 0 (omega arith)), (follow_after next rows).1 (λ k l. p (suc k) (omega arith))),
)

-- rows from the first on
pub follow_iff : (rows : List StopTime) → Follow 0 0 rows ↔ InOrder rows
follow_iff [] = (λ o k l. absurd (omega arith), λ p. tt)
follow_iff (row ∷ rows) = (
  λ o. first_and_next (InPlace (row ∷ rows)) (length rows) ((first row).0 o.0) ((follow_after row rows).0 o.1),
  λ p. ((first row).1 (p 0 (omega arith)), (follow_after row rows).1 (λ k l. p (suc k) (omega arith))),
)

-- the next row is in its place exactly if it may follow
next_after : (row : StopTime) (rows : List StopTime) (next : StopTime)
    → (may_follow (trips_after (suc row.trip) rows) (sequence_after row.sequence rows) next ≡ true)
    ↔ InPlace (row ∷ (rows ++ (next ∷ []))) (suc (length rows))
next_after row [] next = follows row next
next_after row (r ∷ rows) next = next_after r rows next

pub next_iff : (rows : List StopTime) (next : StopTime)
    → (may_follow (trips_after 0 rows) (sequence_after 0 rows) next ≡ true) ↔ InPlace (rows ++ (next ∷ [])) (length rows)
next_iff [] next = first next
next_iff (row ∷ rows) next = next_after row rows next

-- trips never go down
trip_next : (rows : List StopTime) → InOrder rows → (k : ℕ) → suc k < length rows → (row_at rows k).trip ≤ (row_at rows (suc k)).trip
trip_next rows o k l = ⊎_elim (λ g. let e = g.same_trip_lem in omega arith) (λ e. omega arith) (o (suc k) l)

pub trips_rise : (rows : List StopTime) → InOrder rows → (i j : ℕ) → i ≤ j → j < length rows → (row_at rows i).trip ≤ (row_at rows j).trip
trips_rise rows o i zero h l = let e : i ≡ 0 = omega arith in rw e (omega arith)
trips_rise rows o i (suc j) h l =
    ⊎_elim
    (λ (b : i < suc j). omega (arith, trips_rise rows o i j (omega arith) (omega arith), trip_next rows o j l))
    (λ (b : suc j ≤ i). let e : i ≡ suc j = omega arith in rw e (omega arith))
    (by_lt i (suc j))

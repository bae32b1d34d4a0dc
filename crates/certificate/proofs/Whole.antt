-- The steps of the whole check: what each asks and tells of lists that are right. Assumes nothing.
use Rattle.std.proofs.Common.{ℕ, ◌<◌, ◌≤◌, List, take, replicate, arith}
use lib.ListN.{length-replicate, get_or-replicate}
use Rattle.std.proofs.lemmas.List.{take-replicate}
use Rattle.timetable.specs.Check.{max_stops, max_connections}
use Rattle.timetable.specs.File.{stops, connections}
use Rattle.model.specs.Least.{none}
use Rattle.model.specs.Shown.{shown}
use Rattle.links.specs.Links.{FirstLink, NextLink, Marks, Lasts}
use Rattle.links.specs.Links.Mark.{missed}
use Rattle.links.specs.Links.Last.{followed}
use Rattle.changes.specs.Changes.{ChangeLink}
use Rattle.certificate.specs.Lists.{AllMarked, LinksRight, ListsRight}
use Rattle.boards.specs.Timed.{Timed}
use Rattle.links.specs.Telling.{NextsLinked, NoneMissed}
use Rattle.certificate.proofs.Links.{links_right, right_first, right_next, right_marked}
use Rattle.certificate.proofs.Changes.{change_right, right_change}

module _ {f : List ℕ} {s n : ℕ} {g : List ℕ} (l : Timed f s n g) where
  -- before the first link no connection is marked and no board is
  pub links_start : NextsLinked f g 0 0 (take n (replicate {A = ℕ} max_connections none)) (take s (replicate {A = ℕ} max_stops 0))
  links_start =
      let few : n ≤ max_connections = omega (arith, l.sound.few, l.opened.connections) in
      let few_stops : s ≤ max_stops = omega (arith, l.sound.few_stops, l.opened.stops) in
      simp take-replicate
      (record {
        marks = record {
          long = simp length-replicate l.opened.connections;
          each = λ d h. missed (get_or-replicate n d none 0 (omega (arith, l.opened.connections))) (λ k b. absurd (omega arith)) (λ k b. absurd (omega arith));
        };
        lasts = record {
          long = simp length-replicate l.opened.stops;
          each = λ b h. followed (get_or-replicate s b 0 0 (omega (arith, l.opened.stops))) (λ c b. absurd (omega arith));
        };
      })

  -- each first departure and each waiting entry of right lists is checked
  pub firsts_pass : ListsRight (shown f g) g → (k : ℕ) → k < s → FirstLink (shown f g) g k
  firsts_pass r k h = right_first (shown f g) l.sound g r.links k (rw l.opened.stops at h)

  pub nexts_pass : ListsRight (shown f g) g → (k : ℕ) → k < n → NextLink (shown f g) g k
  nexts_pass r k h = right_next (shown f g) l.sound g r.links k (rw l.opened.connections at h)

  module _ {marks lasts : List ℕ} (linked : NextsLinked f g s n marks lasts) where
    marked : Marks (shown f g) g (stops f) (connections f) marks
    marked = rw (l.opened.stops, l.opened.connections) at linked.marks

    lasted : Lasts (shown f g) g (connections f) lasts
    lasted = rw l.opened.connections at linked.lasts

    -- so is each mark
    pub marks_pass : ListsRight (shown f g) g → NoneMissed marks
    marks_pass r d h = right_marked (shown f g) l.sound g r.links marks marked d (rw linked.marks.long at h)

    module _ (full : NoneMissed marks) where
      all_marked : AllMarked (shown f g) marks
      all_marked d h = full d (rw linked.marks.long h)

      -- and each transfer entry
      pub changes_pass : ListsRight (shown f g) g → (k : ℕ) → k < n → ChangeLink (shown f g) g marks lasts k
      changes_pass r k h =
          let b : k < connections f = rw l.opened.connections at h in
          right_change (shown f g) l.sound g r.links marks lasts marked all_marked lasted k b (r.changes k b)

      -- lists that pass are right
      pub passed_right : ((k : ℕ) → k < s → FirstLink (shown f g) g k) → ((k : ℕ) → k < n → NextLink (shown f g) g k)
          → ((k : ℕ) → k < n → ChangeLink (shown f g) g marks lasts k) → ListsRight (shown f g) g
      passed_right firsts nexts changes =
          let links : LinksRight (shown f g) g =
          links_right (shown f g) l.sound g marks (rw l.opened.stops at firsts) (rw l.opened.connections at nexts) marked all_marked in
          record {
            links = links;
            changes = λ k h. change_right (shown f g) l.sound g links marks lasts marked all_marked lasted k h (changes k (rw l.opened.connections h));
          }

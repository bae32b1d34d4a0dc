-- Reading a journey: what its steps ask and what they give together. Assumes nothing.
use Rattle.std.proofs.Common.{◌≡◌, ℕ, ◌<◌, ◌≤◌, eqb, List, length, get_or, take, sym, ap, ◌∙◌, arith, eq-eqb, ne_eqb}
use Rattle.graph.specs.Answers.{accepted, refused}
use Rattle.timetable.specs.Check.{max_connections}
use Rattle.graph.specs.RefusalNumber as refusal
use Rattle.model.specs.Least.{none}
use Rattle.model.specs.Network.{Network}
use Rattle.model.specs.Journeys.{arrives}
use Rattle.model.specs.Predecessors.{predecessors, last_to, nowhere, journey_in}
use Rattle.model.specs.Operations.{enquiry}
use Rattle.model.specs.Shown.{shown}
use Rattle.graph.specs.declared.Network as graph
use Rattle.model.proofs.Rounds.{length_predecessors}
use Rattle.model.proofs.Journeys.{follow_begins, journey_here, journey_there, last_reached}
use Rattle.trails.specs.Trail.{journey_to, Trail, JourneyWritten}
use Rattle.journeys.specs.Reading.{read_out}
use Rattle.trails.proofs.Trail.{rooted, length_follow}

module _ (v : graph.Network) (work journey : List ℕ) (a b t : ℕ) (room : v.shown.timetable.connections ≤ length journey) where
  abbrev net : Network
  net = shown v.shown.timetable.file.now v.shown.graph.now

  abbrev n : ℕ
  n = v.shown.timetable.connections

  -- w is the part of the work area that holds the predecessors
  abbrev w : List ℕ
  w = take n work

  -- at one stop nothing is written
  pub read_here : a ≡ b → enquiry (accepted (record { time = t; connections = 0 })) work journey ≡ read_out net work journey a b t
  unfolding nowhere
  read_here q = rw (journey_here net (take net.connections work) a b q, eq-eqb a b q)

  module _ (filled : w ≡ predecessors net a t) where
    part : w ≡ take net.connections work
    part = rw v.shown.timetable.opened.connections

    -- it has an entry for each connection
    pub long : length w ≡ n
    long = ap length filled ∙ length_predecessors net a t ∙ sym v.shown.timetable.opened.connections

    module _ (u : a ≡ b → ⊥) where
      led : nowhere net (take net.connections work) a b ≡ eqb (last_to net w b) none
      unfolding nowhere
      led = rw (ne_eqb a b u, ← part)

      -- without a last connection there is no journey
      pub read_none : last_to net w b ≡ none
          → enquiry (refused refusal.unreachable 0) work journey ≡ read_out net work journey a b t
      read_none q = rw (led, eq-eqb _ none q)

      -- and with one, last
      module _ (last : ℕ) (found : (last < none) × (last ≡ last_to net w b)) where
        last_is : last ≡ last_to net (predecessors net a t) b
        last_is = found.1 ∙ ap (λ (l : List ℕ). last_to net l b) filled

        at_last : (last < net.connections) × (get_or w last none < none)
        at_last = rw (filled, last_is) (last_reached net a t v.shown.sound b (omega (arith, found.0, last_is)))

        pub last_exists : last < n
        last_exists = omega (arith, at_last.0, v.shown.timetable.opened.connections)

        -- what writing the journey asks
        pub to_write : Trail w last × (length w ≤ length journey)
        to_write = (
          record {
            rooted = rw filled (rooted net a t v.shown.sound);
            numbered = omega (arith, last_exists, long);
            reached = at_last.1;
          },
          omega (arith, long, room),
        )

        module _ (k : ℕ) (j : List ℕ) (z : JourneyWritten w last journey k j) where
          -- there are no more connections than the timetable has
          pub count_fits : k ≤ max_connections
          count_fits = omega (arith, z.count, long, length_follow w (length w) last, v.shown.timetable.opened.timetable.few, v.shown.timetable.opened.connections)

          -- the answer is the journey that was written
          pub read_found : (time : ℕ) → time ≡ net.arrival last
              → enquiry (accepted (record { time = time; connections = k })) work j ≡ read_out net work journey a b t
          read_found time y =
              let js : journey_in net (take net.connections work) a b ≡ journey_to w last =
              rw (← part) (journey_there net w a b u ∙ rw (found.1, long, v.shown.timetable.opened.connections)) in
              let m = follow_begins w (length w) last (omega (arith, to_write.0.numbered)) in
              let v : time ≡ arrives net t (journey_to w last) =
              rw m.1 y in
              rw (led, ← found.1, ne_eqb last none (λ q. omega (arith, found.0)), js, z.connections, z.count, v)

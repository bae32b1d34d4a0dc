-- Runs: building, then a list of postings and withdrawals, each of which gets the areas as the call before left them; and the
-- claim about whole runs (demand 3). Assumes nothing.
use Rattle.std.specs.Prelude.{◌≡◌, ◌↔◌, Bool, true, ◌&&◌, ◌||◌, ℕ, ◌*◌, ◌-◌, ◌<◌, ◌≤◌, leb, eqb, length, take, drop, replicate}
use mathlib.Core.List.{List, [], ◌∷◌, ◌++◌, Memᴰ}
use Rattle.refusals.specs.Answers.{Answer, accepted, refused}
use Rattle.timetable.specs.File.{connections}
use Rattle.timetable.specs.declared.Counts.{Counts}
use Rattle.refusals.specs.RefusalNumber as refusal
use Rattle.model.specs.Notices.{width, room, notices_length, flat}
use Rattle.model.specs.declared.Notice.{Notice}
use Rattle.model.specs.Graph.{Node}
use Rattle.model.specs.Day.{Day, Areas}
use Rattle.model.specs.Drawn.{graph_length, graph_for}
use Rattle.model.specs.Shown.{AreaArc, Leads}
use Rattle.model.specs.Operations.{Outcome, built, posted, withdrawn, enquired}
use Rattle.model.specs.Register.{Call, posting, withdrawal, Kept, kept}

-- one call
abbrev pub called : Day → Areas → Call → Outcome ℕ
called day areas (posting n c d) = posted day areas n c d
called day areas (withdrawal n) = withdrawn day areas n

-- the answers to a list of calls, and the areas afterwards
pub record Ran : Type 0 where
  pub answers : List (Answer ℕ)
  pub areas : Areas

unfoldable pub ran : Day → Areas → List Call → Ran
ran day areas [] = record { answers = []; areas = areas }
ran day areas (call ∷ calls) =
    let o = called day areas call in
    let r = ran day o.areas calls in
    record { answers = o.answer ∷ r.answers; areas = r.areas }

-- the building's answer and, where it is accepted, the run from the areas that it left
pub record Run : Type 0 where
  pub building : Answer Counts
  pub answers : List (Answer ℕ)
  pub areas : Areas

abbrev pub run_from : Day → Outcome Counts → List Call → Run
run_from day o calls = run_after o.answer
  where
    run_after : Answer Counts → Run
    run_after (refused n p) = record { building = refused n p; answers = []; areas = o.areas }
    run_after (accepted counts) =
        let r = ran day o.areas calls in
        record { building = accepted counts; answers = r.answers; areas = r.areas }

unfoldable pub run_of : Day → Areas → List Call → Run
run_of day areas calls = run_from day (built day areas) calls

-- the refusals over room, graph and notices: 21 to 24, 28 and 29
unfoldable pub over_areas : ℕ → Bool
over_areas n = (leb refusal.short_notices n && leb n refusal.wrong_graph) || eqb n refusal.short_work || eqb n refusal.short_journey

-- the register of a list of calls on a day: its answers, and the notices in it at the end
abbrev pub register_of : Day → List Call → Kept
register_of day calls = kept (connections day.file) [] calls

-- numbers strictly ascending, the first above the number before
abbrev pub Ascends : ℕ → List Notice → Type 0
Ascends before [] = Unit {0}
Ascends before (n ∷ ns) = (before < n.number) × Ascends n.number ns

-- a notice area that began as area₀ holds how many notices are in the register, then these ascending by number, then zeros
pub record NoticesHeld (register : List Notice) (area₀ area : List ℕ) : Type 0 where
  -- the notices in the order of their rows
  pub ordered : List Notice
  pub ascending : Ascends 0 ordered
  -- a notice has a row exactly if it is in the register, and there are as many rows as notices there
  pub same_notices : (n : Notice) → Memᴰ n ordered ↔ Memᴰ n register
  pub as_many : length ordered ≡ length register
  pub fits : length register ≤ room
  -- the count, the rows, and zeros in the rows that are left
  pub numbers : take notices_length area ≡ length register ∷ (flat ordered ++ replicate (width * (room - length register)) 0)
  -- past its stated length the area is as it was
  pub past : drop notices_length area ≡ drop notices_length area₀

-- a graph area that began as area₀ holds the entries that the rules give for the day and the register's notices
pub record GraphHeld (day : Day) (register : List Notice) (area₀ area : List ℕ) : Type 0 where
  pub entries : take (graph_length day.file) area ≡ graph_for day register
  -- past its stated length the area is as it was
  pub past : drop (graph_length day.file) area ≡ drop (graph_length day.file) area₀

-- areas that began as areas₀, after a run that left this register
pub record Held (day : Day) (areas₀ : Areas) (register : List Notice) (areas : Areas) : Type 0 where
  pub notices_held : NoticesHeld register areas₀.notices areas.notices
  pub graph_held : GraphHeld day register areas₀.graph areas.graph
  -- every arc of the graph area, stored or not, leads forward
  pub arcs : (x y : Node) → AreaArc day.file areas.graph x y → Leads day.file areas.graph x y
  -- no enquiry with room for each connection is refused over room, graph or notices
  pub enquiries : (work journey : List ℕ) (a b t n p : ℕ) → connections day.file ≤ length work → connections day.file ≤ length journey
      → (enquired day areas work journey a b t).answer ≡ refused n p → over_areas n ≡ true → ⊥

-- the claim about a run of a day's calls that began with areas₀: its answers, and the areas that it left
pub record Claim (day : Day) (areas₀ : Areas) (calls : List Call) (answers : List (Answer ℕ)) (areas : Areas) : Type 0 where
  -- each call's answer is the register's
  pub answers_are : answers ≡ (register_of day calls).answers
  pub held : Held day areas₀ (register_of day calls).register areas

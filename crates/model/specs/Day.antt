-- What the calls of a run are handed: what stays the same throughout it, and what passes from call to call. Assumes nothing.
use Rattle.std.specs.Prelude.{List, ℕ}

-- what stays the same throughout a run: the timetable file
pub record Day : Type 0 where
  pub file : List ℕ

abbrev pub day_of : List ℕ → Day
day_of f = record { file = f }

-- what passes from call to call: the notice area and the graph area
pub record Areas : Type 0 where
  pub notices : List ℕ
  pub graph : List ℕ

abbrev pub lent : List ℕ → List ℕ → Areas
lent notices graph = record { notices = notices; graph = graph }

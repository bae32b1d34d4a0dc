-- What the reading of a text's rows needs and leaves. Assumes nothing.
use Rattle.std.specs.Prelude.{◌≡◌, true, cond, Option, Some, None, Result, Ok, List, ℕ, ◌≤◌, length}
use Rattle.std.proofs.lemmas.List.Edits.{sets}
use Rattle.numbers.specs.Numbers.{bytes_of}
use Rattle.timetable.specs.Check.{max_connections}
use Rattle.refusals.specs.Answers.{verdict_of}
use Rattle.cuts.specs.Cut.{starts_with}
use Rattle.refusals.specs.declared.Refusal.{Refusal}
use Rattle.gtfs.specs.Feed.{may_follow, text_verdict}
use Rattle.gtfs.specs.StopTimes.{header_text}
use Rattle.gtfs.specs.Files.{connection_numbers}
use Rattle.gtfs.specs.Conversions.{text_connections}
use Rattle.stop_times.specs.Columns.{line_at}
use Rattle.gtfs.specs.declared.StopTime.{StopTime}
use Rattle.feeds.specs.declared.Progress.{Progress}
use Rattle.feeds.specs.Progress.{connections_room, advanced, connected}

-- what the reading of one row needs
pub record Taking (text : List ℕ) (at : ℕ) (p : Progress) (area : List ℕ) : Type 0 where
  pub place : at ≤ length text
  pub rows : p.row ≤ at
  pub few : p.connections ≤ p.row
  pub room : length area ≡ connections_room

-- what is known after a line of a text: a row that may follow, or none
abbrev pub turned : Progress → Option (StopTime × ℕ) → Option (Progress × ℕ)
turned p (Some (row, next)) = cond (may_follow p.trips p.sequence row) (Some (advanced p row, next)) None
turned p None = None

-- the area of connections after a line of a text
abbrev pub area_after : Progress → Option (StopTime × ℕ) → List ℕ → List ℕ
area_after p (Some (row, next)) area = cond (may_follow p.trips p.sequence row) (connected p row area) area
area_after p None area = area

-- what the reading of one row leaves
pub record Taken (r : Option (Progress × ℕ)) (after before text : List ℕ) (at : ℕ) (p : Progress) : Type 0 where
  pub turn : r ≡ turned p (line_at text at)
  pub area : after ≡ area_after p (line_at text at) before

-- what the reading of a text's rows needs
pub record Reading (text area : List ℕ) : Type 0 where
  pub header : starts_with header_text text ≡ true
  pub room : length area ≡ connections_room

-- what the reading of a text's rows leaves: refusal 31; where there is none, how many connections, and these at the area's front, if a
-- timetable may have so many
pub record RowsRead (r : Result ℕ (Refusal ℕ)) (after before text : List ℕ) : Type 0 where
  pub verdict : verdict_of r ≡ text_verdict text
  pub count : (n : ℕ) → r ≡ Ok n → n ≡ length (text_connections text)
  pub stands : (n : ℕ) → r ≡ Ok n → n ≤ max_connections
      → after ≡ sets before 0 (bytes_of (connection_numbers (text_connections text)))

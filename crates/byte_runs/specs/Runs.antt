-- Runs on areas of bytes, as a caller from C sees them: a building, then postings and withdrawals, each on the areas as the call
-- before left them, then an enquiry, each by the promise of its function; and the claim about them (demand 3). Assumes nothing.
use Rattle.std.specs.Prelude.{◌≡◌, false, List, [], ◌∷◌, ℕ, ◌*◌, ◌/◌, ◌%◌, ◌<◌, ◌≤◌, length, get_or, drop}
use Rattle.numbers.specs.Numbers.{byte_size, numbers_of}
use Rattle.refusals.specs.Answers.{Answer}
use Rattle.timetable.specs.File.{connections}
use Rattle.model.specs.Notices.{notices_length}
use Rattle.model.specs.declared.Notice.{Notice}
use Rattle.model.specs.Times.{network_of}
use Rattle.model.specs.Day.{Day, Areas}
use Rattle.model.specs.Drawn.{graph_length}
use Rattle.model.specs.Operations.{built, enquired}
use Rattle.model.specs.declared.Arrival.{Arrival}
use Rattle.model.specs.Meaning.{Means}
use Rattle.model.specs.Register.{Call}
use Rattle.model.specs.Runs.{called, run_of, over_areas, register_of, Held}
use Rattle.codes.specs.Encoded.{number_size, coded, coded_counts, coded_arrival}
use Rattle.fronts.specs.Fronts.{lent_bytes}
use Rattle.coded_updates.specs.Updated.{CodedOutcome, coded_by, OutcomeBytes}
use Rattle.enquiries.specs.Enquired.{EnquiryBytes}

-- both areas of bytes
pub record ByteAreas : Type 0 where
  pub notices : List ℕ
  pub graph : List ℕ

-- the areas of numbers that they are
abbrev pub as_numbers : ByteAreas → Areas
as_numbers areas = lent_bytes areas.notices areas.graph

-- a C array of bytes holds nothing else
abbrev pub AreBytes : List ℕ → Type 0
AreBytes area = (i : ℕ) → get_or area i 0 < byte_size

pub record Bytewise (areas : ByteAreas) : Type 0 where
  pub notices_bytes : AreBytes areas.notices
  pub graph_bytes : AreBytes areas.graph

-- a function for C was called with the areas before, answered a number and left the areas after
pub record Answers (o : CodedOutcome) (before : ByteAreas) (answer : ℕ) (after : ByteAreas) : Type 0 where
  pub promised : OutcomeBytes o before.notices before.graph answer after.notices after.graph
  pub bytes : Bytewise after

-- postings and withdrawals one after the other: the areas before, the calls, their answers' numbers, the areas after
pub data Calls (day : Day) : ByteAreas → List Call → List ℕ → ByteAreas → Type 0 where
  done : {areas : ByteAreas} → Calls day areas [] [] areas
  more : {before between after : ByteAreas} {call : Call} {calls : List Call} {answer : ℕ} {answers : List ℕ}
      → Answers (coded_by coded (called day (as_numbers before) call)) before answer between
      → Calls day between calls answers after
      → Calls day before (call ∷ calls) (answer ∷ answers) after

-- a building that answers a number of refusal 0, and the calls after it
pub record ByteRun (day : Day) (areas₀ : ByteAreas) (calls : List Call) (answers : List ℕ) (areas : ByteAreas) : Type 0 where
  pub lent_bytes_lem : Bytewise areas₀
  pub building : ℕ
  pub begun : ByteAreas
  pub builds : Answers (coded_by coded_counts (built day (as_numbers areas₀))) areas₀ building begun
  pub accepts : building % number_size ≡ 0
  pub works : Calls day begun calls answers areas

-- the numbers of some answers
unfoldable pub codes_of : List (Answer ℕ) → List ℕ
codes_of [] = []
codes_of (a ∷ answers) = coded a ∷ codes_of answers

-- an area of bytes that began as area₀ is as long as then, and from so many numbers on as then, an odd last byte too
pub record Past (numbers : ℕ) (area₀ area : List ℕ) : Type 0 where
  pub as_long : length area ≡ length area₀
  pub same : drop (2 * numbers) area ≡ drop (2 * numbers) area₀

-- an enquiry from stop a to stop b at time t, on areas of bytes with room for each connection
pub record ByteEnquiry (day : Day) (areas : ByteAreas) (work₀ journey₀ : List ℕ) (a b t : ℕ)
    (code : ℕ) (work journey : List ℕ) : Type 0 where
  pub work_bytes : AreBytes work₀
  pub journey_bytes : AreBytes journey₀
  pub work_room : connections day.file ≤ length work₀ / 2
  pub journey_room : connections day.file ≤ length journey₀ / 2
  pub promised : EnquiryBytes (enquired day (as_numbers areas) (numbers_of work₀) (numbers_of journey₀) a b t)
      work₀ journey₀ code work journey

-- what the claim says of it
pub record EnquiryClaim (day : Day) (register : List Notice) (work₀ journey₀ : List ℕ) (a b t : ℕ)
    (code : ℕ) (work journey : List ℕ) : Type 0 where
  -- it is not refused over room, graph or notices
  pub not_refused : over_areas (code % number_size) ≡ false
  -- its answer is the best journey with the register's notices, and refusal 30 means that there is none
  pub answer : Answer Arrival
  pub told : code ≡ coded_arrival answer
  pub means : Means (network_of day register) a b t (numbers_of journey₀) (numbers_of journey) answer
  -- past a number for each connection both areas are as they were, byte for byte
  pub work_past : Past (connections day.file) work₀ work
  pub journey_past : Past (connections day.file) journey₀ journey

-- the claim about a run of a day's calls on areas of bytes that began as areas₀
pub record ByteClaim (day : Day) (areas₀ : ByteAreas) (calls : List Call) (answers : List ℕ) (areas : ByteAreas) : Type 0 where
  -- each call's answer is the register's
  pub answers_are : answers ≡ codes_of (register_of day calls).answers
  -- the areas' numbers are those of the run on numbers, of which the claim about whole runs holds
  pub run_is : as_numbers areas ≡ (run_of day (as_numbers areas₀) calls).areas
  pub held : Held day (as_numbers areas₀) (register_of day calls).register (as_numbers areas)
  -- past their stated lengths both areas are as they were, byte for byte
  pub notices_past : Past notices_length areas₀.notices areas.notices
  pub graph_past : Past (graph_length day.file) areas₀.graph areas.graph
  -- every enquiry after it
  pub enquiries : (work₀ journey₀ : List ℕ) (a b t code : ℕ) (work journey : List ℕ)
      → ByteEnquiry day areas work₀ journey₀ a b t code work journey
      → EnquiryClaim day (register_of day calls).register work₀ journey₀ a b t code work journey

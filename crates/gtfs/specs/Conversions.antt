-- Import and export: what each answers and what it leaves in the output area. Assumes nothing.
use Rattle.std.specs.Prelude.{not, ◌&&◌, List, [], ◌∷◌, ◌++◌, ℕ, ltb, leb, length, drop}
use Rattle.numbers.specs.Numbers.{numbers_of}
use Rattle.refusals.specs.Answers.{Answer, refuse_if, or_else, first_refusal, answering, Verdict, Passed, Refused}
use Rattle.timetable.specs.Check.{max_stops, max_connections, file_verdict}
use Rattle.refusals.specs.RefusalNumber as refusal
use Rattle.gtfs.specs.Feed.{Connection, rows_of, connections_of, text_verdict}
use Rattle.gtfs.specs.Files.{file_of}
use Rattle.gtfs.specs.Rows.{text_of}

-- everything after a conversion: the answer, the bytes written if it is accepted, and the output area
pub record Conversion : Type 0 where
  pub answer : Answer ℕ
  pub output : List ℕ

abbrev pub conversion : Answer ℕ → List ℕ → Conversion
conversion answer output = record { answer = answer; output = output }

-- the output area after a conversion that gives these bytes
abbrev pub written : Verdict → List ℕ → List ℕ → List ℕ
written Passed bytes output = bytes ++ drop (length bytes) output
written (Refused n p) bytes output = output

-- 32 for an output area that is shorter than the bytes
abbrev pub room_verdict : List ℕ → List ℕ → Verdict
room_verdict bytes output = refuse_if (ltb (length output) (length bytes)) refusal.short_output 0

-- a conversion that is refused as the verdict says, or for want of room, and else gives these bytes
abbrev pub converted : Verdict → List ℕ → List ℕ → Conversion
converted verdict bytes output =
    let whole = or_else verdict (room_verdict bytes output) in
    conversion (answering whole (length bytes)) (written whole bytes output)

-- 4 and 5: how many stops and connections, also past 16 bits
abbrev pub counts_verdict : ℕ → ℕ → Verdict
counts_verdict stops connections =
    or_else (refuse_if (not (leb 1 stops && leb stops max_stops)) refusal.wrong_stop_count 0)
    (refuse_if (ltb max_connections connections) refusal.wrong_connection_count 0)

-- the connections of a text, and its file with the transfer times of an area of bytes
abbrev pub text_connections : List ℕ → List Connection
text_connections text = connections_of (rows_of text)

abbrev pub imported_file : List ℕ → List ℕ → List ℕ
imported_file text change = file_of (numbers_of change) (text_connections text)

-- what an import is refused with before its output area is looked at: 31, then document 01's refusals of its file
unfoldable pub import_verdict : List ℕ → List ℕ → Verdict
import_verdict text change =
    first_refusal
    (text_verdict text ∷
    counts_verdict (length (numbers_of change)) (length (text_connections text)) ∷
    file_verdict (imported_file text change) ∷
    [])

-- the file of a text and of an area of transfer times into an output area
unfoldable pub imported : List ℕ → List ℕ → List ℕ → Conversion
imported text change output = converted (import_verdict text change) (imported_file text change) output

-- the text of a file into an output area
unfoldable pub exported : List ℕ → List ℕ → Conversion
exported f output = converted (file_verdict f) (text_of f) output

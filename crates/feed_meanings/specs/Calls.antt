-- With which number and place a call of import or export is refused: 32 comes last. Assumes nothing.
use Rattle.std.specs.Prelude.{List, ℕ, ◌<◌, length}
use Rattle.timetable.specs.Accepted.{Timetable}
use Rattle.timetable.specs.Refusals.{FileRefusal}
use Rattle.refusals.specs.RefusalNumber as refusal
use Rattle.gtfs.specs.Rows.{text_of}
use Rattle.gtfs.specs.Conversions.{imported_file}
use Rattle.feed_meanings.specs.Imports.{GoodImport, WrongImport}

-- a call that gives bytes where its input is good, and is refused as its input is wrong, or for an output area shorter than the bytes
pub data CallRefusal (Good : Type 0) (Wrong : ℕ → ℕ → Type 0) (bytes output : List ℕ) : ℕ → ℕ → Type 0 where
  wrong_input : {n p : ℕ} → Wrong n p → CallRefusal Good Wrong bytes output n p
  short_output_lem : Good → length output < length bytes → CallRefusal Good Wrong bytes output refusal.short_output 0

-- an import gives the file of its text and transfer times
abbrev pub ImportRefusal : List ℕ → List ℕ → List ℕ → ℕ → ℕ → Type 0
ImportRefusal text change output n p = CallRefusal (GoodImport text change) (WrongImport text change) (imported_file text change) output n p

-- an export gives the text of its file
abbrev pub ExportRefusal : List ℕ → List ℕ → ℕ → ℕ → Type 0
ExportRefusal f output n p = CallRefusal (Timetable f) (FileRefusal f) (text_of f) output n p

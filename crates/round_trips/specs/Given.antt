-- What a conversion gives where it is not refused and has room. Assumes nothing.
use Rattle.std.specs.Prelude.{List, ◌++◌, ℕ, length, drop}
use Rattle.refusals.specs.Answers.{accepted}
use Rattle.gtfs.specs.Conversions.{Conversion, conversion}

-- these bytes: how many they are, and the area with them at its front, the rest as before
abbrev pub giving : List ℕ → List ℕ → Conversion
giving bytes output = conversion (accepted (length bytes)) (bytes ++ drop (length bytes) output)

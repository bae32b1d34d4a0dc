-- Which texts of rows are accepted, and at which row another one is refused with 31. Places in a list of rows count from 0, a
-- refusal's place counts rows from 1: its 0 is the first line. Assumes nothing.
use Rattle.std.specs.Prelude.{None, List, [], ◌∷◌, ◌++◌, ◌⊎◌, ◌≡◌, ℕ, zero, suc, ◌<◌, length, get_or}
use Rattle.decimals.specs.Bytes.{newline}
use Rattle.gtfs.specs.StopTimes.{header_text, row_in}
use Rattle.gtfs.specs.declared.StopTime.{StopTime}
use Rattle.feed_meanings.specs.Words.{IsRow}

-- the row at a place
abbrev pub row_at : List StopTime → ℕ → StopTime
row_at rows k = get_or rows k (row_in None)

-- a row goes on in the trip of the row before it: its stop_sequence is higher
pub record GoesOn (row next : StopTime) : Type 0 where
  pub same_trip_lem : next.trip ≡ row.trip
  pub rises : row.sequence < next.sequence

-- the row at a place may stand there: the first has trip 0, each next goes on in the trip of the row before it or begins the next one
abbrev pub InPlace : List StopTime → ℕ → Type 0
InPlace rows zero = (row_at rows 0).trip ≡ 0
InPlace rows (suc k) = GoesOn (row_at rows k) (row_at rows (suc k)) ⊎ ((row_at rows (suc k)).trip ≡ suc (row_at rows k).trip)

-- each row may stand where it does
abbrev pub InOrder : List StopTime → Type 0
InOrder rows = (k : ℕ) → k < length rows → InPlace rows k

-- the row at a place is alone in its trip: each row of its trip is itself
abbrev pub Alone : List StopTime → ℕ → Type 0
Alone rows k = (j : ℕ) → j < length rows → (row_at rows j).trip ≡ (row_at rows k).trip → j ≡ k

-- a text that begins with rows, each a line and the newline that ends it, and goes on with the rest
pub data Lines : List ℕ → List StopTime → List ℕ → Type 0 where
  no_line : {rest : List ℕ} → Lines rest [] rest
  line_first : {line text rest : List ℕ} {row : StopTime} {rows : List StopTime}
      → IsRow line row → Lines text rows rest → Lines (line ++ (newline ∷ text)) (row ∷ rows) rest

-- a text that begins with its first line and rows that are right, and goes on with the rest
pub record Front (text : List ℕ) (rows : List StopTime) (rest : List ℕ) : Type 0 where
  pub body : List ℕ
  pub header : text ≡ header_text ++ body
  pub lines : Lines body rows rest
  pub in_order : InOrder rows

-- an accepted text: all of it is right, and no row is alone in its trip
pub record GoodText (text : List ℕ) (rows : List StopTime) : Type 0 where
  pub whole : Front text rows []
  pub none_alone : (k : ℕ) → k < length rows → Alone rows k → ⊥

-- what comes after some rows begins with one more that is right
pub record NextRow (rows : List StopTime) (rest : List ℕ) : Type 0 where
  pub line : List ℕ
  pub after : List ℕ
  pub row : StopTime
  pub ended : rest ≡ line ++ (newline ∷ after)
  pub is_row_lem : IsRow line row
  pub in_place : InPlace (rows ++ (row ∷ [])) (length rows)

-- a refused text, with its place: the first line is another; after rows that are right comes something that is no row that is right;
-- or each row is right, and this one is the first alone in its trip
pub data WrongText (text : List ℕ) : ℕ → Type 0 where
  wrong_header : ((body : List ℕ) → text ≡ header_text ++ body → ⊥) → WrongText text 0
  wrong_row : {rows : List StopTime} {rest : List ℕ} → Front text rows rest → (rest ≡ [] → ⊥) → (NextRow rows rest → ⊥)
      → WrongText text (suc (length rows))
  alone_row : {rows : List StopTime} (k : ℕ) → Front text rows [] → k < length rows → Alone rows k
      → ((j : ℕ) → j < k → Alone rows j → ⊥) → WrongText text (suc k)

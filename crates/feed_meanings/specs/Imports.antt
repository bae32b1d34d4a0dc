-- When an import is accepted, and when it is refused with which number and place, before its output area is looked at. Assumes nothing.
use Rattle.std.specs.Prelude.{List, ◌≡◌, ℕ, zero, suc, ◌<◌, ◌≤◌, length, get_or}
use Rattle.numbers.specs.Numbers.{numbers_of}
use Rattle.refusals.specs.RefusalNumber as refusal
use Rattle.gtfs.specs.Feed.{Connection, rows_of}
use Rattle.gtfs.specs.Conversions.{text_connections}
use Rattle.feed_meanings.specs.Texts.{GoodText, WrongText}

-- the connection at a place
abbrev pub connection_at : List Connection → ℕ → Connection
connection_at cs c = get_or cs c (record { trip = 0; from = 0; to = 0; departure = 0; arrival = 0 })

-- it goes from one stop to another
pub record TwoStops (stops : ℕ) (c : Connection) : Type 0 where
  pub from_stop_lem : c.from < stops
  pub to_stop : c.to < stops
  pub apart : c.from ≡ c.to → ⊥

-- it arrives after it departs, at 71:59 at the latest
pub record Forward (c : Connection) : Type 0 where
  pub later : c.departure < c.arrival
  pub within : c.arrival ≤ 4319

-- it departs no earlier than the connection before it in its trip arrives
abbrev pub Keeps : List Connection → ℕ → Type 0
Keeps cs zero = Unit {0}
Keeps cs (suc c) =
    (connection_at cs (suc c)).trip ≡ (connection_at cs c).trip → (connection_at cs c).arrival ≤ (connection_at cs (suc c)).departure

pub record GoodConnection (stops : ℕ) (cs : List Connection) (c : ℕ) : Type 0 where
  pub two_stops : TwoStops stops (connection_at cs c)
  pub forward : Forward (connection_at cs c)
  pub keeps : Keeps cs c

-- how many stops a list of transfer times has, and the one of stop s
abbrev pub stop_count : List ℕ → ℕ
stop_count change = length (numbers_of change)

abbrev pub transfer_at : List ℕ → ℕ → ℕ
transfer_at change s = get_or (numbers_of change) s 0

-- as many stops as there may be
pub record SomeStops (change : List ℕ) : Type 0 where
  pub some_stops : 1 ≤ stop_count change
  pub few_stops : stop_count change ≤ 500

-- a text and a list of transfer times
module _ (text change : List ℕ) where
  -- the text is right, and there are as many stops and connections as there may be
  pub record Counted : Type 0 where
    pub good_text : GoodText text (rows_of text)
    pub stops : SomeStops change
    pub few : length (text_connections text) ≤ 2000

  -- and each transfer time is one
  pub record Stopped : Type 0 where
    pub counted : Counted
    pub transfers : (s : ℕ) → s < stop_count change → transfer_at change s ≤ 60

  -- an import that is accepted: so is each connection
  pub record GoodImport : Type 0 where
    pub stopped : Stopped
    pub connections : (c : ℕ) → c < length (text_connections text) → GoodConnection (stop_count change) (text_connections text) c

  -- all that comes before connection c is right
  pub record Comes (c : ℕ) : Type 0 where
    pub stopped : Stopped
    pub below : c < length (text_connections text)
    pub earlier : (b : ℕ) → b < c → GoodConnection (stop_count change) (text_connections text) b

  -- an import that is refused, with its number and place: 31 at a row, 4 or 5 at 0, 7 at a stop, 8, 10 or 11 at a connection
  pub data WrongImport : ℕ → ℕ → Type 0 where
    wrong_text : (p : ℕ) → WrongText text p → WrongImport refusal.wrong_text_row p
    wrong_stop_count_lem : GoodText text (rows_of text) → (SomeStops change → ⊥) → WrongImport refusal.wrong_stop_count 0
    wrong_connection_count_lem : GoodText text (rows_of text) → SomeStops change → 2000 < length (text_connections text)
        → WrongImport refusal.wrong_connection_count 0
    wrong_transfer : (s : ℕ) → Counted → s < stop_count change → ((b : ℕ) → b < s → transfer_at change b ≤ 60) → 60 < transfer_at change s
        → WrongImport refusal.wrong_transfer_time s
    wrong_stops_lem : (c : ℕ) → Comes c → (TwoStops (stop_count change) (connection_at (text_connections text) c) → ⊥)
        → WrongImport refusal.wrong_stops c
    wrong_times_lem : (c : ℕ) → Comes c → TwoStops (stop_count change) (connection_at (text_connections text) c)
        → (Forward (connection_at (text_connections text) c) → ⊥) → WrongImport refusal.wrong_times c
    wrong_join_lem : (c : ℕ) → Comes c → TwoStops (stop_count change) (connection_at (text_connections text) c)
        → Forward (connection_at (text_connections text) c) → (Keeps (text_connections text) c → ⊥) → WrongImport refusal.wrong_join c

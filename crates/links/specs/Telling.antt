-- What the check of a link tells of a timetable and a graph area, and what it leaves. Assumes nothing.
use Rattle.std.specs.Prelude.{◌≡◌, Bool, true, List, ℕ, suc, ◌<◌, length, get_or}
use Rattle.model.specs.Least.{none}
use Rattle.model.specs.Shown.{shown}
use Rattle.links.specs.Links.{FirstLink, NextLink, Marks, Lasts}

-- r tells whether P holds
abbrev pub Tells : Bool → Type 0 → Type 0
Tells r P = (r ≡ true → P) × (P → r ≡ true)

-- and if it does, so does Q
pub record Told (r : Bool) (P Q : Type 0) : Type 0 where
  pub tells : Tells r P
  pub leaves : r ≡ true → Q

-- the marks after the links of the first k boards
abbrev pub FirstsLinked : List ℕ → List ℕ → ℕ → List ℕ → Type 0
FirstsLinked f g k marks = Marks (shown f g) g k 0 marks

-- the marks after the links of k boards and of the first m connections
pub record NextsLinked (f g : List ℕ) (k m : ℕ) (marked lasting : List ℕ) : Type 0 where
  pub marks : Marks (shown f g) g k m marked
  pub lasts : Lasts (shown f g) g m lasting

-- the check of board b's first departure
abbrev pub FirstTold : List ℕ → List ℕ → ℕ → Bool → List ℕ → Type 0
FirstTold f g b r marks = Told r (FirstLink (shown f g) g b) (FirstsLinked f g (suc b) marks)

-- the check of connection c's waiting entry
abbrev pub NextTold : List ℕ → List ℕ → ℕ → ℕ → Bool → List ℕ → List ℕ → Type 0
NextTold f g k c r marks lasts = Told r (NextLink (shown f g) g c) (NextsLinked f g k (suc c) marks lasts)

-- no mark is none
abbrev pub NoneMissed : List ℕ → Type 0
NoneMissed marks = (d : ℕ) → d < length marks → get_or marks d 0 ≡ none → ⊥

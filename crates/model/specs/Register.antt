-- The register of notices (document 01: the book): what a clerk would keep, fed the connection count and the calls' own
-- numbers. A new notice is entered at the end; the order has no meaning. Assumes nothing.
use Rattle.std.specs.Prelude.{◌≡◌, ◌⊎◌, Bool, false, cond, not, ◌&&◌, ◌||◌, List, [], ◌∷◌, ◌++◌, ℕ, leb, eqb, length}
use Rattle.refusals.specs.Answers.{Answer, accepted, refused}
use Rattle.refusals.specs.RefusalNumber as refusal
use Rattle.model.specs.Notices.{notice, room, least_delay, most_posted}
use Rattle.model.specs.declared.Notice.{Notice}

-- a call of a run, with its own numbers
pub data Call : Type 0 where
  posting : ℕ → ℕ → ℕ → Call
  withdrawal : ℕ → Call

-- whether the register has a notice of this number
unfoldable pub has : ℕ → List Notice → Bool
has m [] = false
has m (n ∷ register) = eqb n.number m || has m register

-- whether it has one of this number for another connection
unfoldable pub has_elsewhere : ℕ → ℕ → List Notice → Bool
has_elsewhere m c [] = false
has_elsewhere m c (n ∷ register) = (eqb n.number m && not (eqb n.connection c)) || has_elsewhere m c register

-- the register with this delay for the notice of this number
unfoldable pub corrected : ℕ → ℕ → List Notice → List Notice
corrected m d [] = []
corrected m d (n ∷ register) = cond (eqb n.number m) (notice m n.connection d) n ∷ corrected m d register

-- the register with the notice of this number struck out
unfoldable pub without : ℕ → List Notice → List Notice
without m [] = []
without m (n ∷ register) = cond (eqb n.number m) (without m register) (n ∷ without m register)

-- an answer, and the register afterwards
pub record Step : Type 0 where
  pub answer : Answer ℕ
  pub register : List Notice

-- a refusal leaves the register alone
abbrev pub refuse : List Notice → ℕ → Step
refuse register n = record { answer = refused n 0; register = register }

abbrev pub accept : List Notice → ℕ → Step
accept register n = record { answer = accepted n; register = register }

unfoldable pub register_step : ℕ → List Notice → Call → Step
register_step C register (posting n c d) =
    cond (eqb n 0) (refuse register refusal.no_number)
    (cond (leb C c) (refuse register refusal.unknown_connection)
    (cond (not (leb least_delay d && leb d most_posted)) (refuse register refusal.wrong_delay)
    (cond (has_elsewhere n c register) (refuse register refusal.stands_elsewhere)
    (cond (has n register) (accept (corrected n d register) n)
    (cond (leb room (length register)) (refuse register refusal.no_room)
    (accept (register ++ (notice n c d ∷ [])) n))))))
register_step C register (withdrawal n) =
    cond (eqb n 0) (refuse register refusal.no_number)
    (cond (not (has n register)) (refuse register refusal.not_standing)
    (accept (without n register) n))

-- the register's answers to a list of calls, and the register after it
pub record Kept : Type 0 where
  pub answers : List (Answer ℕ)
  pub register : List Notice

unfoldable pub kept : ℕ → List Notice → List Call → Kept
kept C register [] = record { answers = []; register = register }
kept C register (call ∷ calls) =
    let s = register_step C register call in
    let k = kept C s.register calls in
    record { answers = s.answer ∷ k.answers; register = k.register }

-- none of these answers accepts a call of number m: an accepted call answers its notice's number
abbrev pub NoneAccepted : ℕ → List (Answer ℕ) → Type 0
NoneAccepted m [] = Unit {0}
NoneAccepted m (a ∷ answers) = (a ≡ accepted m → ⊥) × NoneAccepted m answers

-- the posting of a notice is the latest accepted call of its number
abbrev pub Latest : Notice → List Call → List (Answer ℕ) → Type 0
Latest n (call ∷ calls) (a ∷ answers) =
    Latest n calls answers
    ⊎ ((call ≡ posting n.number n.connection n.delay) × (a ≡ accepted n.number) × NoneAccepted n.number answers)
Latest n [] answers = ⊥
Latest n (call ∷ calls) [] = ⊥

-- An operation's result and the reply to it are the turn of its command. Assumes nothing.
use Rattle.std.proofs.Common.{◌≡◌, ℕ, ◌≤◌, List, length, IsOkAnd, IsErrAnd, Ok, Err, Result, MatchResult, refl, ap, arith, length-append}
use lib.ListN.{length-reverse}
use Rattle.refusals.specs.declared.Refusal.{Refusal}
use Rattle.refusals.specs.Answers.{Answer, accepted, told}
use Rattle.model.specs.Day.{Day, Areas}
use Rattle.model.specs.Network.{Network}
use Rattle.model.specs.Operations.{Outcome, outcome, enquired}
use Rattle.model.specs.declared.Arrival.{Arrival}
use Rattle.model.specs.Meaning.{Journey}
use Rattle.search.specs.Answered.{Answered}
use Rattle.lines.specs.Lines.{text_of}
use Rattle.labels.specs.Room.{LineIs}
use Rattle.written_replies.specs.declared.Reply.{Reply}
use Rattle.written_replies.specs.declared.Reply.TheVariants as R
use Rattle.written_replies.specs.Replies.{line_of}
use Rattle.written_replies.specs.Said.{line_in, Fits}
use Rattle.turns.specs.Turns.{State, Turn, state, turn, changing, enquiring}
use Rattle.turns.specs.Worked.{Performed, Worked}

-- what `map` with a variant's name makes of a result
abbrev pub Made : {A : Type 0} → (A → Reply) → Result A (Refusal ℕ) → Result Reply (Refusal ℕ) → Type 0
Made make r p = MatchResult r (λ v. IsOkAnd p (λ reply. reply ≡ make v)) (λ e. p ≡ Err e)

-- so does a closure whose results are known
pub made_by : {A : Type 0} {make : A → Reply} (r : Result A (Refusal ℕ)) (p : Result Reply (Refusal ℕ)) {P : A → Reply → Type 0}
    → MatchResult r (λ v. IsOkAnd p (P v)) (λ e. p ≡ Err e) → ((v : A) (reply : Reply) → P v reply → reply ≡ make v) → Made make r p
made_by (Ok v) (Ok reply) m same = same v reply m
made_by (Ok v) (Err e) m same = absurd m
made_by (Err e) p m same = m

-- which stays so where a closure gives each refusal again
pub told_again : {A : Type 0} (make : A → Reply) (r : Result A (Refusal ℕ)) (q p : Result Reply (Refusal ℕ)) {P : Refusal ℕ → Refusal ℕ → Type 0}
    → Made make r q → MatchResult q (λ v. p ≡ Ok v) (λ e. IsErrAnd p (P e)) → ((e f : Refusal ℕ) → P e f → f ≡ e) → Made make r p
told_again make (Ok v) (Ok w) p m h same = rw h m
told_again make (Ok v) (Err e) p m h same = absurd m
told_again make (Err e) (Ok w) p m h same = cc
told_again make (Err e) (Err f) (Ok v) m h same = absurd h
told_again make (Err e) (Err f) (Err g) m h same = let d : g ≡ f = same f g h in cc

-- a result and the reply that is made of it
performed : {A : Type 0} (make : A → Reply) (after : State) (r : Result A (Refusal ℕ)) (p : Result Reply (Refusal ℕ)) → Made make r p
    → ((v : A) → r ≡ Ok v → Fits after.journey (accepted (make v)))
    → Performed p after (turn (line_of (λ v. line_in after.journey (make v)) (told r)) after)
performed make after (Ok v) (Ok reply) m fits = rw m (record { is = refl; fits = fits v refl })
performed make after (Ok v) (Err e) m fits = absurd m
performed make after (Err e) p m fits = rw m (record { is = refl; fits = tt })

-- a call that changes the notices
pub changing_performed : (s : State) (make : ℕ → Reply) {o : Outcome ℕ} (r : Result ℕ (Refusal ℕ)) (p : Result Reply (Refusal ℕ)) {areas : Areas}
    → outcome (told r) areas ≡ o → Made make r p → ((n : ℕ) → Fits s.journey (accepted (make n)))
    → Performed p (state areas s.work s.journey) (changing s (λ n. line_in s.journey (make n)) o)
changing_performed s make r p {areas} e m fits =
    rw (← e) (performed make (state areas s.work s.journey) r p m (λ n _. fits n))

-- a journey has at most as many connections as its area has numbers
journey_fits : {net : Network} {a b t : ℕ} {before after : List ℕ} {v : Arrival} → Journey net a b t before after v
    → v.connections ≤ length after
journey_fits j = omega (arith, j.count, simp (length-append, length-reverse) at (ap length j.written))

-- an enquiry
pub enquiring_performed : (day : Day) (s : State) (a b t : ℕ) (r : Result Arrival (Refusal ℕ)) (p : Result Reply (Refusal ℕ)) {work journey : List ℕ}
    → Answered day s.areas s.work s.journey a b t (told r) work journey → Made R.Arrives r p
    → Performed p (state s.areas work journey) (enquiring s (enquired day s.areas s.work s.journey a b t))
enquiring_performed day s a b t r p {work} {journey} h m =
    rw (← h.is) (performed R.Arrives (state s.areas work journey) r p m (λ v e. journey_fits (h.means.answered v (ap told e))))

-- a margin, or why: nothing changes
pub telling_performed : {A : Type 0} (s : State) (make : A → Reply) (r : Result A (Refusal ℕ)) (p : Result Reply (Refusal ℕ)) {answer : Answer A}
    → told r ≡ answer → Made make r p → ((v : A) → Fits s.journey (accepted (make v)))
    → Performed p s (turn (line_of (λ v. line_in s.journey (make v)) answer) s)
telling_performed s make r p e m fits = rw (← e) (performed make s r p m (λ v _. fits v))

-- a command worked and its reply written
pub performed_worked : {t : Turn} {r : Result Reply (Refusal ℕ)} {after : State} {n : ℕ} {out out₀ : List ℕ} → Performed r after t
    → LineIs n out out₀ (text_of (line_of (line_in after.journey) (told r))) → Worked n out out₀ after t
performed_worked {out = out} {out₀ = out₀} p w = rw (← p.is) (record { written = w; left = refl })

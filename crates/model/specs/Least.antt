-- The first by time and then by number of those that pass a test. Departure lists, predecessors and the last connection of a
-- journey are all instances of it. Assumes nothing.
use Rattle.std.specs.Prelude.{◌≡◌, ◌⊎◌, Bool, true, cond, ◌&&◌, ◌||◌, List, [], ◌∷◌, ◌++◌, ℕ, zero, suc, ◌+◌, ◌*◌, ◌<◌, ◌≤◌, ltb, eqb}

-- no connection
abbrev pub none : ℕ
none = 65535

-- time and then number, as one number: numbers are below 65536
abbrev pub key : (ℕ → ℕ) → ℕ → ℕ
key time c = 65536 * time c + c

-- of the numbers below n that pass the test, the first by time, then number; none without one
unfoldable pub least_below : (ℕ → Bool) → (ℕ → ℕ) → ℕ → ℕ
least_below test time zero = none
least_below test time (suc n) =
    let best = least_below test time n in
    cond (test n && (eqb best none || ltb (time n) (time best))) n best

-- r is the first by time and number of those below n that pass
pub record Found (test : ℕ → Bool) (time : ℕ → ℕ) (n r : ℕ) : Type 0 where
  pub below : r < n
  pub passes : test r ≡ true
  pub least : (e : ℕ) → e < n → test e ≡ true → key time r ≤ key time e

-- none below n passes
abbrev pub Nobody : (ℕ → Bool) → ℕ → Type 0
Nobody test n = (e : ℕ) → e < n → test e ≡ true → ⊥

-- r is none and nobody passes, or r is the first
abbrev pub Least : (ℕ → Bool) → (ℕ → ℕ) → ℕ → ℕ → Type 0
Least test time n r = ((r ≡ none) × Nobody test n) ⊎ Found test time n r

-- how many of the numbers below n pass
unfoldable pub how_many : (ℕ → Bool) → ℕ → ℕ
how_many test zero = 0
how_many test (suc n) = how_many test n + cond (test n) 1 0

-- c's place among the numbers below n in the order by time, then number
unfoldable pub rank : (ℕ → ℕ) → ℕ → ℕ → ℕ
rank time n c = how_many (λ e. ltb (key time e) (key time c)) n

-- what f gives at 0, 1, .., n - 1
unfoldable pub tab : (ℕ → ℕ) → ℕ → List ℕ
tab f zero = []
tab f (suc n) = tab f n ++ (f n ∷ [])

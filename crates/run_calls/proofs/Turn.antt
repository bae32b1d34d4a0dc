-- One turn of the loop over the calls: the calls left, on the areas as they are now, give what all calls gave on the first.
-- Assumes nothing.
use Rattle.std.proofs.Common.{◌≡◌, ℕ, zero, suc, ◌+◌, ◌-◌, ◌*◌, ◌<◌, ◌≤◌, List, [], ◌∷◌, ◌++◌, length, get_or, take, drop, set, sym, refl, ap, ◌∙◌, append_assoc, add-zero, add-one, arith, length-append, take-append-drop, length-take, get_or-drop, drop-drop, take_at, drop-set-lt}
use native.Mathlib.Nat.{sub-zero}
use lib.Seq.{sets-eq}
use Rattle.refusals.specs.Answers.{Answer}
use Rattle.model.specs.Register.{Call}
use Rattle.model.specs.Operations.{outcome}
use Rattle.model.specs.Day.{Day, Areas}
use Rattle.model.specs.Runs.{called, Ran, ran}
use Rattle.run_steps.specs.Step.{call_of, answer_number, answer_value}
use Rattle.run_calls.specs.Calls.{call_width, answer_width, calls_of, told_numbers}
use Rattle.run_calls.specs.Ended.{Ended}

-- the call at a place
abbrev pub call_at : List ℕ → ℕ → Call
call_at xs at = call_of (get_or xs at 0) (get_or xs (at + 1) 0) (get_or xs (at + 2) 0) (get_or xs (at + 3) 0)

calls_more : (m at : ℕ) (xs : List ℕ) → calls_of (suc m) (drop at xs) ≡ call_at xs at ∷ calls_of m (drop (at + call_width) xs)
unfolding calls_of
calls_more m at xs = simp (get_or-drop, add-zero, drop-drop)

-- how many numbers a run tells
length_calls : (k : ℕ) (xs : List ℕ) → length (calls_of k xs) ≡ k
unfolding calls_of
length_calls zero xs = refl
length_calls (suc k) xs = ap suc (length_calls k (drop call_width xs))

length_ran : (day : Day) (areas : Areas) (calls : List Call) → length (ran day areas calls).answers ≡ length calls
unfolding ran
length_ran day areas [] = refl
length_ran day areas (call ∷ calls) = ap suc (length_ran day (called day areas call).areas calls)

pub length_told : (told : List (Answer ℕ)) → length (told_numbers told) ≡ answer_width * length told
unfolding told_numbers
length_told [] = refl
length_told (a ∷ more) = omega (arith, length_told more)

-- an answer's two numbers stored
module _ (xs : List ℕ) (at x y : ℕ) where
  take_pair : at + answer_width ≤ length xs → take (at + answer_width) (set (set xs at x) (at + 1) y) ≡ take at xs ++ (x ∷ y ∷ [])
  take_pair h =
      let p : set (set xs at x) (at + 1) y ≡ take at xs ++ (x ∷ y ∷ []) ++ drop (at + answer_width) xs = rw add-one (sets-eq (x ∷ y ∷ []) xs at h) in
      let l : length (take at xs ++ (x ∷ y ∷ [])) ≡ at + answer_width = simp (length-append, length-take) (omega arith) in
      rw p (take_at (take at xs ++ (x ∷ y ∷ [])) (drop (at + answer_width) xs) (at + answer_width) l)

  drop_pair : (j : ℕ) → at + answer_width ≤ j → drop j (set (set xs at x) (at + 1) y) ≡ drop j xs
  drop_pair j h = drop-set-lt j (set xs at x) (at + 1) y (omega arith) ∙ drop-set-lt j xs at x (omega arith)

module _ (day : Day) (calls : List ℕ) (n : ℕ) where
  -- the run of the calls left after k of n
  abbrev pub later : ℕ → Areas → Ran
  later k areas = ran day areas (calls_of (n - k) (drop (call_width * k) calls))

  -- k calls of n are done: what is left gives what the whole gave
  pub record Left (o : Ran) (answers₀ : List ℕ) (k : ℕ) (areas : Areas) (answers : List ℕ) : Type 0 where
    pub areas_are : (later k areas).areas ≡ o.areas
    pub answers_are : take (answer_width * k) answers ++ (told_numbers (later k areas).answers ++ drop (answer_width * n) answers)
        ≡ told_numbers o.answers ++ drop (length (told_numbers o.answers)) answers₀

  pub start : (areas : Areas) (answers : List ℕ) → Left (ran day areas (calls_of n calls)) answers 0 areas answers
  start areas answers =
      let o = ran day areas (calls_of n calls) in
      let l : length (told_numbers o.answers) ≡ answer_width * n = length_told o.answers ∙ ap (λ (m : ℕ). answer_width * m) (length_ran day areas (calls_of n calls) ∙ length_calls n calls) in
      record { areas_are = rw sub-zero; answers_are = rw (sub-zero, l) }

  -- a call and those after it
  later_more : (k : ℕ) (areas areas' : Areas) (r : Answer ℕ) → k < n
      → outcome r areas' ≡ called day areas (call_at calls (call_width * k))
      → later k areas ≡ record { answers = r ∷ (later (k + 1) areas').answers; areas = (later (k + 1) areas').areas }
  unfolding ran
  later_more k areas areas' r h e =
      let b : n - k ≡ suc (n - (k + 1)) = omega arith in
      let d : call_width * (k + 1) ≡ call_width * k + call_width = omega arith in
      rw (b, d, calls_more, ← e)

  pub turn : (o : Ran) (answers₀ : List ℕ) (k : ℕ) (areas : Areas) (answers : List ℕ) (areas' : Areas) (r : Answer ℕ) → k < n → answer_width * n ≤ length answers
      → outcome r areas' ≡ called day areas (call_at calls (call_width * k))
      → Left o answers₀ k areas answers
      → Left o answers₀ (k + 1) areas' (set (set answers (answer_width * k) (answer_number r)) (answer_width * k + 1) (answer_value r))
  unfolding told_numbers
  turn o answers₀ k areas answers areas' r h l e i =
      let d : answer_width * (k + 1) ≡ answer_width * k + answer_width = omega arith in
      let q = later_more k areas areas' r h e in
      record {
        areas_are = rw q at i.areas_are;
        answers_are = rw (d, take_pair answers (answer_width * k) (answer_number r) (answer_value r) (omega arith), drop_pair answers (answer_width * k) (answer_number r) (answer_value r) (answer_width * n) (omega arith), append_assoc) (rw q at i.answers_are);
      }

  pub end : (o : Ran) (answers₀ : List ℕ) (k : ℕ) (areas : Areas) (answers : List ℕ) → k ≡ n → Left o answers₀ k areas answers → Ended o answers₀ areas answers
  unfolding ran calls_of told_numbers
  end o answers₀ k areas answers e i =
      let z : n - n ≡ 0 = omega arith in
      record {
        areas_are = rw (e, z) at i.areas_are;
        answers_are = sym (take-append-drop (answer_width * n) answers) ∙ (rw (e, z) at i.answers_are);
      }

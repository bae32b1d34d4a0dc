-- A line that has not ended: what is held of it, and that it says the same. Assumes nothing.
use Rattle.std.proofs.Common.{◌≡◌, ℕ, zero, suc, ◌+◌, ◌-◌, ◌<◌, ◌≤◌, min, true, false, List, [], ◌∷◌, ◌++◌, map, length, take, drop, None, sym, refl, ap, ◌∙◌, ⊎_elim, append-nil, zero-add, arith, length-append, length-drop, length-take, take_all, take-take}
use mathlib.Core.Bool.{and-false}
use borrow.Author.Tests.{lt-leb, not-true}
use Rattle.std.specs.List.{copy_within}
use Rattle.std.proofs.lemmas.List.{take_min}
use Rattle.decimals.specs.Bytes.{newline}
use Rattle.cuts.specs.Cut.{has, on_first}
use Rattle.commands.specs.Commands.{max_line, command_of}
use Rattle.input.specs.Lines.{input_lines, plain, commands_of, held_room, HeldBack}
use Rattle.cuts.proofs.Cut.{has_none, has_take}
use Rattle.input.proofs.Lines.{not_ended}
use Rattle.model.proofs.ByCases.{by_lt}

-- a line that is too long is no command
pub long_unreadable : (line : List ℕ) → max_line < length line → command_of line ≡ None
unfolding command_of
long_unreadable line h = rw (lt-leb (length line) max_line h)

-- a line that has not ended is no command
pub open_unreadable : (line : List ℕ) → plain line ≡ true → command_of line ≡ None
unfolding command_of
open_unreadable line h = rw (not_ended line (not-true _ h), and-false)

-- the first of some lines, and the others
abbrev first : List (List ℕ) → List ℕ
first [] = []
first (l ∷ ls) = l

abbrev others : List (List ℕ) → List (List ℕ)
others [] = []
others (l ∷ ls) = ls

first_other : (b : ℕ) (ls : List (List ℕ)) → on_first b ls ≡ (b ∷ first ls) ∷ others ls
first_other b [] = refl
first_other b (l ∷ ls) = refl

-- the lines of an input that starts with bytes without a newline
joined : (b : ℕ) (bs more : List ℕ) → has newline (b ∷ bs) ≡ false
    → input_lines ((b ∷ bs) ++ more) ≡ ((b ∷ bs) ++ first (input_lines more)) ∷ others (input_lines more)
unfolding input_lines
joined b [] more h = rw (has_none newline b [] h).0 (first_other b (input_lines more))
joined b (c ∷ bs) more h = let n = has_none newline b (c ∷ bs) h in rw n.0 (ap (on_first b) (joined c bs more n.1))

-- the commands of an input whose first line has a start of more bytes than a command
long_start : (b : ℕ) (bs more : List ℕ) → has newline (b ∷ bs) ≡ false → max_line < length (b ∷ bs)
    → commands_of ((b ∷ bs) ++ more) ≡ None ∷ map command_of (others (input_lines more))
long_start b bs more h long =
    rw (joined b bs more h)
    (ap (λ x. x ∷ map command_of (others (input_lines more)))
    (long_unreadable ((b ∷ bs) ++ first (input_lines more)) (simp length-append (omega arith))))

-- a start of more bytes than a command gives the same commands as all of it
start_same : (n : ℕ) → max_line < n → (input more : List ℕ) → has newline input ≡ false → n < length input
    → commands_of (take n input ++ more) ≡ commands_of (input ++ more)
start_same zero g input more h long = absurd (omega arith)
start_same (suc n) g [] more h long = absurd (omega arith)
start_same (suc n) g (b ∷ bs) more h long =
    long_start b (take n bs) more (has_take newline (suc n) (b ∷ bs) h) (simp length-take (omega arith))
    ∙ sym (long_start b bs more h (omega arith))

-- what is held of a line that has not ended gives the same commands, whatever comes next
pub held_same : (input more : List ℕ) → plain input ≡ true → commands_of (take held_room input ++ more) ≡ commands_of (input ++ more)
held_same input more h =
    ⊎_elim
    (λ (long : held_room < length input). start_same held_room (omega arith) input more (not-true _ h) long)
    (λ (short : length input ≤ held_room). rw (take_all held_room input short))
    (by_lt held_room (length input))

-- at the end of the input, what has not ended is a line by itself
pub last_line : (line : List ℕ) → plain line ≡ true → 0 < length line → commands_of line ≡ command_of line ∷ []
unfolding input_lines
last_line [] h some = absurd (omega arith)
last_line (b ∷ bs) h some = rw (append-nil bs) at (ap (map command_of) (joined b bs [] (not-true _ h)))

-- a block whose first bytes are moved holds what is to be held of them
pub moved_held : (block : List ℕ) (at end k : ℕ) → at ≤ end → end ≤ length block → k ≡ min held_room (end - at)
    → HeldBack k (copy_within block at (at + k) 0) block (take (end - at) (drop at block))
moved_held block at end k h g e =
    let rest = take (end - at) (drop at block) in
    let size : length rest ≡ end - at = simp (length-take, length-drop) (omega arith) in
    let held : take held_room rest ≡ take k (drop at block) =
    sym (take_min held_room rest) ∙ rw (size, ← e) (take-take k (end - at) (drop at block) (omega arith)) in
    let moved : at + k - at ≡ k = omega arith in
    rw moved (record {
      size = rw held (simp (length-take, length-drop) (omega arith));
      stands = rw (held, zero-add);
      within = rw zero-add (simp (length-append, length-take, length-drop) (omega arith));
    })

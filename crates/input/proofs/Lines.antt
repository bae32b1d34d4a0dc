-- Laws of the lines of an input. Assumes nothing.
use Rattle.std.proofs.Common.{◌≡◌, ℕ, true, false, eqb, List, [], ◌∷◌, ◌++◌, refl, ap, ◌∙◌, ⊎_elim}
use mathlib.Core.List.{flatten}
use native.Mathlib.Numerals.{unary_clauses}
use Rattle.decimals.specs.Bytes.{newline}
use Rattle.cuts.specs.Cut.{has, before, on_first}
use Rattle.commands.specs.Commands.{ended}
use Rattle.input.specs.Lines.{input_lines}
use Rattle.cuts.proofs.Cut.{has_none}
use Rattle.model.proofs.ByCases.{by_bool}

-- without a newline none ends the line
pub not_ended : (line : List ℕ) → has newline line ≡ false → ended line ≡ false
not_ended [] h = refl
not_ended (b ∷ []) h = (has_none newline b [] h).0
not_ended (b ∷ c ∷ line) h = simp unary_clauses (simp unary_clauses at (not_ended (c ∷ line) (has_none newline b (c ∷ line) h).1))

-- the first line of an input with a newline, and whatever comes next
pub line_alone : (input more : List ℕ) → has newline input ≡ true
    → input_lines ((before newline input ++ newline ∷ []) ++ more) ≡ (before newline input ++ newline ∷ []) ∷ input_lines more
unfolding has before input_lines
line_alone [] more h = cc
line_alone (b ∷ bs) more h =
    ⊎_elim
    (λ e. rw e)
    (λ (e : eqb b newline ≡ false). rw (e, e) (ap (on_first b) (line_alone bs more (rw e at h))))
    (by_bool (eqb b newline))

flatten_first : (b : ℕ) (ls : List (List ℕ)) → flatten (on_first b ls) ≡ b ∷ flatten ls
unfolding flatten
flatten_first b [] = refl
flatten_first b (l ∷ ls) = refl

-- the lines of an input are the input: no byte is lost and none is added
pub lines_whole : (input : List ℕ) → flatten (input_lines input) ≡ input
unfolding input_lines flatten
lines_whole [] = refl
lines_whole (b ∷ bs) =
    ⊎_elim
    (λ e. rw e (ap (◌∷◌ b) (lines_whole bs)))
    (λ e. rw e (flatten_first b (input_lines bs) ∙ ap (◌∷◌ b) (lines_whole bs)))
    (by_bool (eqb b newline))

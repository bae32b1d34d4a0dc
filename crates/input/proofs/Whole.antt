-- Lines that a newline ends, taken from the front of an input one after the other. Assumes nothing.
use Rattle.std.proofs.Common.{◌≡◌, ℕ, suc, ◌+◌, ◌-◌, ◌<◌, ◌≤◌, true, false, List, [], ◌∷◌, ◌++◌, length, take, drop, sym, refl, ap, ◌∙◌, ⊎_elim, append_assoc, append-nil, arith, length-append, length-drop, length-take, take-add}
use Rattle.decimals.specs.Bytes.{newline}
use Rattle.cuts.specs.Cut.{has, before}
use Rattle.input.specs.Lines.{input_lines, whole_line, WholeLines}
use Rattle.cuts.proofs.Cut.{before_cut}
use Rattle.input.proofs.Lines.{line_alone}
use Rattle.model.proofs.ByCases.{by_bool}

-- before the first line
pub whole_none : WholeLines []
unfolding input_lines
whole_none = record { splits = λ more. refl }

-- one line more
module _ (block : List ℕ) (at stop : ℕ) (e : stop ≡ at + length (whole_line (drop at block))) (h : at < stop) where
  has_newline : has newline (drop at block) ≡ true
  has_newline =
      ⊎_elim
      (λ (t : has newline (drop at block) ≡ true). t)
      (λ (f : has newline (drop at block) ≡ false). absurd (omega (arith, rw f at e)))
      (by_bool (has newline (drop at block)))

  line_ends : stop - at ≡ suc (length (before newline (drop at block)))
  line_ends = omega (arith, simp length-append at (rw has_newline at e))

  line_taken : take (stop - at) (drop at block) ≡ before newline (drop at block) ++ newline ∷ []
  line_taken = rw line_ends (before_cut newline (drop at block) has_newline)

  pub stop_within : stop ≤ length block
  stop_within = omega (arith, line_ends, simp (length-take, length-drop, length-append) at (ap length line_taken))

  alone : (more : List ℕ) → input_lines (take (stop - at) (drop at block) ++ more) ≡ take (stop - at) (drop at block) ∷ input_lines more
  alone more = rw line_taken (line_alone (drop at block) more has_newline)

  taken : take stop block ≡ take at block ++ take (stop - at) (drop at block)
  taken =
      let k : stop ≡ at + (stop - at) = omega arith in
      ap (λ (n : ℕ). take n block) k ∙ take-add at (stop - at) block

  -- its lines
  pub lines_turn : WholeLines (take at block)
      → input_lines (take stop block) ≡ input_lines (take at block) ++ (take (stop - at) (drop at block) ∷ [])
  unfolding input_lines
  lines_turn w =
      let l = take (stop - at) (drop at block) in
      rw taken (w.splits l ∙ ap (λ (x : List (List ℕ)). input_lines (take at block) ++ x) (ap input_lines (sym (append-nil l)) ∙ alone []))

  pub whole_turn : WholeLines (take at block) → WholeLines (take stop block)
  whole_turn w = record {
    splits = λ more.
        let l = take (stop - at) (drop at block) in
        rw (lines_turn w)
        (rw taken (rw append_assoc (w.splits (l ++ more) ∙ ap (λ (x : List (List ℕ)). input_lines (take at block) ++ x) (alone more)))
        ∙ sym (append_assoc (input_lines (take at block)) (l ∷ []) (input_lines more)));
  }

-- What a margin asks of its own numbers: when each refusal is given, and what it tells where they pass.
-- Assumes nothing.
use Rattle.std.proofs.Common.{◌≡◌, ℕ, ◌<◌, not, ◌||◌, eqb, leb, List, [], sym, refl, ◌∙◌}
use Rattle.graph.specs.Answers.{refuse_if, Passed, Refused}
use Rattle.timetable.specs.File.{connections, from, to}
use Rattle.timetable.proofs.Tests.{at_most, unequal, either}
use Rattle.timetable.proofs.Order.{Rule, rule, pass, stop, passes}
use Rattle.graph.specs.RefusalNumber as refusal
use Rattle.model.specs.Parts.{asked_verdict, margin_asks}

-- 13, then 17
module _ (f : List ℕ) (c d : ℕ) where
  connections_rule : Rule (refuse_if (leb (connections f) c || leb (connections f) d) refusal.unknown_connection 0)
      refusal.unknown_connection 0 ((c < connections f) × (d < connections f))
  connections_rule = rule _ refusal.unknown_connection 0 (either _ _ (at_most (connections f) c) (at_most (connections f) d))

  join_rule : Rule (refuse_if (not (eqb (to f c) (from f d))) refusal.not_joined 0) refusal.not_joined 0 (to f c ≡ from f d)
  join_rule = rule _ refusal.not_joined 0 (unequal (to f c) (from f d))

  -- a change that passes is between two connections
  pub change_passed : asked_verdict [] (margin_asks f c d) ≡ Passed → (c < connections f) × (d < connections f)
  change_passed e = (passes _ connections_rule e).0

  -- one of the connections does not exist
  pub change_unknown : ((c < connections f) × (d < connections f) → ⊥)
      → Refused refusal.unknown_connection 0 ≡ asked_verdict [] (margin_asks f c d)
  change_unknown h = sym (stop _ connections_rule h)

  module _ (h : (c < connections f) × (d < connections f)) (x y : ℕ) (p : x ≡ to f c) (q : y ≡ from f d) where
    -- the second starts elsewhere than the first ends
    pub change_apart : (x ≡ y → ⊥) → Refused refusal.not_joined 0 ≡ asked_verdict [] (margin_asks f c d)
    change_apart k = sym (pass connections_rule h (stop _ join_rule (λ e. k (p ∙ e ∙ sym q))))

    -- neither
    pub change_passes : x ≡ y → Passed ≡ asked_verdict [] (margin_asks f c d)
    change_passes k = sym (pass connections_rule h (pass join_rule (sym p ∙ k ∙ q) refl))

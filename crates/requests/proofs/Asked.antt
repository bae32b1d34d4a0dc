-- What an enquiry asks of its own numbers: when each refusal is given, and what it tells where they pass.
-- Assumes nothing.
use Rattle.std.proofs.Common.{◌≡◌, ℕ, ◌<◌, ◌≤◌, ◌||◌, ltb, leb, [], sym, refl, arith}
use Rattle.graph.specs.Answers.{refuse_if, Passed, Refused}
use Rattle.timetable.proofs.Tests.{below, at_most, either}
use Rattle.timetable.proofs.Order.{Rule, rule, pass, stop}
use Rattle.graph.specs.RefusalNumber as refusal
use Rattle.model.specs.Network.{last_expected}
use Rattle.model.specs.Parts.{asked_verdict, enquiry_asks}

-- 15, then 16
module _ (s a b t : ℕ) where
  stops_rule : Rule (refuse_if (leb s a || leb s b) refusal.unknown_stop 0) refusal.unknown_stop 0 ((a < s) × (b < s))
  stops_rule = rule _ refusal.unknown_stop 0 (either _ _ (at_most s a) (at_most s b))

  time_rule : Rule (refuse_if (ltb last_expected t) refusal.too_late 0) refusal.too_late 0 (t ≤ last_expected)
  time_rule = rule _ refusal.too_late 0 (below last_expected t)

  -- one of the stops does not exist
  pub request_unknown : ((a < s) × (b < s) → ⊥) → Refused refusal.unknown_stop 0 ≡ asked_verdict [] (enquiry_asks s a b t)
  request_unknown h = sym (stop _ stops_rule h)

  -- the time is too late
  pub request_late : (a < s) × (b < s) → last_expected < t → Refused refusal.too_late 0 ≡ asked_verdict [] (enquiry_asks s a b t)
  request_late h k = sym (pass stops_rule h (stop _ time_rule (λ (l : t ≤ last_expected). omega arith)))

  -- neither
  pub request_passes : (a < s) × (b < s) → t ≤ last_expected → Passed ≡ asked_verdict [] (enquiry_asks s a b t)
  request_passes h k = sym (pass stops_rule h (pass time_rule k refl))

-- `matching::times_right` meets its contract: the times are compared with the expected ones. Assumes nothing.
use Rattle.std.proofs.Common.{◌∙◌}
use Rattle.model.proofs.GraphArea.{length_times}
use Rattle.matching.proofs.Comparing.{front_same}
use Rattle.matching.proofs.times_right.Goals as goal

pub returns : goal.returns
returns c =
    c.eq.ensures ∙ front_same c.args.area.now c.expected_times.new.area _ _ _ (length_times _ _) c.expected_times.ensures

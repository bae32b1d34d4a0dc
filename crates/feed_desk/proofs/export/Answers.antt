-- What is exported lies in its area. Assumes nothing.
use Rattle.std.proofs.Common.{sym, length-take-le}
use Rattle.feed_desk.proofs.Within.{exported_within}
use Rattle.feed_desk.proofs.export.Goals as goal

pub slice_bounds-text-end : goal.slice_bounds-text-end
slice_bounds-text-end g c =
    exported_within _ c.in_ok-n.was c.export.auto.text c.in_ok-file.file.now c.export.ensures

pub slice_bounds-write_feed-end : goal.slice_bounds-write_feed-end
slice_bounds-write_feed-end g c =
    sym (length-take-le _ _ (exported_within _ c.in_ok-n.was c.export.auto.text c.in_ok-file.file.now c.export.ensures))

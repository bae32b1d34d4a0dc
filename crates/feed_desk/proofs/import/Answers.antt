-- The areas are as long as they are declared, and what is read and imported lies in them. Assumes nothing.
use Rattle.std.proofs.Common.{ℕ, sym, length-take-le}
use Rattle.std.proofs.lemmas.List.{length-replicate}
use Rattle.feed_desk.proofs.Within.{imported_within, value_kept}
use Rattle.feed_desk.proofs.import.Goals as goal

pub slice_bounds-load_whole-end-2 : goal.slice_bounds-load_whole-end-2
slice_bounds-load_whole-end-2 g c = sym (length-replicate {A = ℕ} _ 0)

pub read_changes-requires : goal.read_changes-requires
read_changes-requires g c = c.in_ok-lines.ensures

pub slice_bounds-change-end : goal.slice_bounds-change-end
slice_bounds-change-end g c =
    c.read_changes.ensures.within _ (value_kept _ _ _ c.map_err.ensures.cases c.map_err.ensures.variant c.in_ok-m.was)

pub slice_bounds-import-end : goal.slice_bounds-import-end
slice_bounds-import-end g c =
    sym
    (length-take-le _ _
    (c.read_changes.ensures.within _ (value_kept _ _ _ c.map_err.ensures.cases c.map_err.ensures.variant c.in_ok-m.was)))

pub slice_bounds-file-end : goal.slice_bounds-file-end
slice_bounds-file-end g c =
    imported_within _ c.in_ok-n.was c.import.auto.output c.in_ok-text.text.now _ c.import.ensures

pub slice_bounds-file-end-2 : goal.slice_bounds-file-end-2
slice_bounds-file-end-2 g c =
    sym (length-take-le _ _ (imported_within _ c.in_ok-n.was c.import.auto.output c.in_ok-text.text.now _ c.import.ensures))

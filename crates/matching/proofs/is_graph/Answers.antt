-- `matching::is_graph` meets its contract: where the times are the expected ones, the lists are those of the area's own times just if
-- the area is the graph. Assumes nothing.
use Rattle.std.proofs.Common.{sym, ◌∙◌}
use Rattle.model.proofs.Lists.{same_eq}
use Rattle.boards.proofs.Timed.{timed}
use Rattle.matching.proofs.Certified.{judged, no_times}
use Rattle.matching.proofs.is_graph.Goals as goal

pub returns-then-not-times_right : goal.returns-then-not-times_right
returns-then-not-times_right c =
    no_times _ _ _ _ c.args.outlook.timetable.opened.connections (sym c.times_right.ensures ∙ c.if-not-times_right.true)

pub invariant_of-lists_right : goal.invariant_of-lists_right
invariant_of-lists_right c =
    let a = c.args in
    let t = timed a.outlook.timetable.file.now a.outlook.notices.now a.graph.now _ _ a.outlook.timetable.opened c.args.outlook.standing (same_eq _ _ (sym c.times_right.ensures ∙ c.if-not-times_right.false)) c.requires in
    record { sound = t.sound; room = t.room }

pub returns : goal.returns
returns c =
    judged _ _ _ _ _ c.args.outlook.timetable.opened c.args.outlook.standing (same_eq _ _ (sym c.times_right.ensures ∙ c.if-not-times_right.false)) _ c.requires c.lists_right.ensures

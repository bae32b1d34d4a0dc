-- `turns::work_line` meets its contract: the command read, worked, and its reply written. Assumes nothing.
use Rattle.std.proofs.Common.{refl}
use Rattle.model.specs.Day.{day_of, lent}
use Rattle.commands.specs.Commands.{command_of}
use Rattle.turns.specs.Turns.{state, turn_of}
use Rattle.turns.specs.Worked.{Performed}
use Rattle.turns.proofs.Turns.{performed_worked}
use Rattle.turns.proofs.work_line.Goals as goal
use Rattle.turns.proofs.work_line.Goals.{in-Some, in-None}

pub returns : goal.returns
unfolding turn_of
returns c =
    let a = c.args in
    let m = c.match-read_command in
    let before = state (lent a.notices.now a.graph.now) a.work.now a.journey.now in
    let after = state (lent m.notices m.graph) m.work m.journey in
    let performed : Performed m.reply after (turn_of (day_of a.file.now) before (command_of a.line.now)) =
    elim m.branch [
      | in-Some w ↦
          rw (w.reply-is, w.notices-is, w.graph-is, w.work-is, w.journey-is, ← w.in-Some.ensures) w.perform-reply.ensures
      | in-None w ↦
          rw (w.reply-is, w.notices-is, w.graph-is, w.work-is, w.journey-is, ← w.in-None.ensures) (record { is = refl; fits = tt })
    ] in
    performed_worked performed c.write_reply.ensures

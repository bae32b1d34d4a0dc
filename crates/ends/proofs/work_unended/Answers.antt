-- `ends::work_unended` meets its contract: no such line is a command. Assumes nothing.
use Rattle.lines.specs.Lines.{text_of}
use Rattle.ends.proofs.Unended.{open_worked}
use Rattle.ends.proofs.work_unended.Goals as goal

pub returns : goal.returns
unfolding text_of
returns c =
    open_worked c.write_refusal.ensures

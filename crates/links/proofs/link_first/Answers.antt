-- `links::link_first` meets its contract. Assumes nothing.
use Rattle.std.proofs.Common.{arith}
use Rattle.boards.proofs.Opened.{timed_by}
use Rattle.links.proofs.Marks.{first_off, first_right}
use Rattle.links.proofs.link_first.Goals as goal

pub returns-then-shown-d : goal.returns-then-shown-d
returns-then-shown-d c =
    first_off (timed_by c.args.shown) _ _ c.first_departure-e.ensures c.requires.1 c.if-shown-d.true

pub returns : goal.returns
returns c =
    first_right (timed_by c.args.shown) _ _ c.first_departure-e.ensures c.requires.1 c.if-shown-d.false (omega arith)

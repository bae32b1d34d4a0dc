-- `links::link_next` meets its contract. Assumes nothing.
use Rattle.std.proofs.Common.{arith}
use Rattle.boards.proofs.Opened.{timed_by}
use Rattle.links.proofs.Marks.{next_none, next_right}
use Rattle.links.proofs.link_next.Goals as goal

pub returns-then-shown-d : goal.returns-then-shown-d
returns-then-shown-d c =
    next_none (timed_by c.args.shown) _ _ c.waiting-e.ensures c.requires.1 _ _ c.board-board.ensures.value c.departure-departure.ensures.value c.if-e.false

pub returns : goal.returns
returns c =
    next_right (timed_by c.args.shown) _ _ c.waiting-e.ensures c.requires.1 c.if-shown-d.false _ c.departure-departure.ensures.value (omega arith) cc

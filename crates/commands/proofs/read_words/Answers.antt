-- `commands::read_words` meets its contract: the first word, and the numbers word by word. Assumes nothing.
use Rattle.std.proofs.Common.{◌∙◌, ap}
use Rattle.meanings.specs.Meanings.{with_number}
use Rattle.commands.proofs.Words.{words_first, left_shorter, said_first, said_next}
use Rattle.commands.proofs.read_words.Goals as goal

pub loop-rest-init : goal.loop-rest-init
loop-rest-init c =
    let e = c.first_piece.ensures in
    said_first _ _ _ (words_first _ _ _ e.piece e.rest)

pub loop-rest-smaller : goal.loop-rest-smaller
loop-rest-smaller c = rw c.in-Some.is (left_shorter _ _ _ c.first_piece-in-Some.ensures.rest)

pub loop-rest-preserved : goal.loop-rest-preserved
loop-rest-preserved c =
    let e = c.first_piece-in-Some.ensures in
    rw c.in-Some.is at c.loop-rest.invariant
    ∙ said_next _ _ _ _ _ _ (words_first _ _ _ e.piece e.rest) (c.with_number-numbers.ensures ∙ ap (with_number _) c.read_number.ensures)

-- `change_lists::read_changes` meets its contract: each line is read, its number stands behind those before it, and each turn leaves
-- less of the text. Assumes nothing.
use Rattle.std.proofs.Common.{sym, ◌∙◌, arith, rules}
use Rattle.change_lists.proofs.Lines.{line_read}
use Rattle.change_lists.proofs.Reading.{two_bytes, reading_starts, reading_turn, reading_ends}
use Rattle.change_lists.proofs.read_changes.Goals as goal

pub loop-n-init : goal.loop-n-init
loop-n-init c = reading_starts c.args.text.now c.args.change.now

pub loop-n-preserved : goal.loop-n-preserved
loop-n-preserved c =
    reading_turn c.loop-n.invariant c.requires (line_read _ _ (sym c.in-Some.ensures.read) c.in-Some.ensures.within)
    (c.copy_from_slice.ensures.after ∙ c.to_le_bytes.ensures ∙ two_bytes c.in-Some.n (search rules)) (omega arith)

pub returns : goal.returns
returns c = reading_ends c.loop-n.invariant c.requires c.if-at-text.false

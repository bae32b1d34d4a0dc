-- `input::whole_end` meets its contract: the end of the first line where a newline ends it. Assumes nothing.
use Rattle.std.proofs.Common.{arith, length-append}
use Rattle.decimals.specs.Bytes.{newline}
use Rattle.cuts.proofs.Pieces.{piece_cut}
use Rattle.input.proofs.whole_end.Goals as goal

pub returns : goal.returns
returns c =
    let a = c.args in
    let end = c.in_ok-end.end in
    rw (piece_cut newline a.block.now a.at end c.in_ok-end.ensures.1 c.in_ok-end.ensures.0) (simp length-append (omega arith))

-- `row_texts::put_low` meets its contract: one digit, or two. Assumes nothing.
use Rattle.std.proofs.Common.{◌+◌}
use Rattle.decimals.specs.Bytes.{digit_zero}
use Rattle.decimals.proofs.Digits.{decimal_one}
use Rattle.decimals.proofs.Written.{byte_written}
use Rattle.row_texts.proofs.put_low.Goals as goal

pub returns-then-number-lt10 : goal.returns-then-number-lt10
returns-then-number-lt10 c =
    let a = c.args in
    rw (decimal_one a.number c.if-number-lt10.true) (byte_written a.out.now a.at (digit_zero + a.number))

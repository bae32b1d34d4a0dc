-- How long a line is: the lengths of its parts. Assumes nothing.
use Rattle.std.proofs.Common.{length-append}
use Rattle.decimals.proofs.Digits.{digits_five, digits_ten}

pub ruleset parts = (length-append, digits_five, digits_ten)

-- `decimals::read_number` meets its contract: the bytes from the index on, after digits of the value so far, are the word's
-- number. Assumes nothing.
use Rattle.std.proofs.Common.{◌≡◌, ◌^◌, ◌<◌, drop}
use Rattle.decimals.specs.Decimal.{decimal}
use Rattle.decimals.proofs.Reading.{decimal_after}
use Rattle.decimals.proofs.read_number.Given as goal

abbrev pub invariant-loop-byte : goal.invariant-loop-byte
invariant-loop-byte l =
    (l.value < 10 ^ l.byte-index) × (decimal l.word ≡ decimal_after l.value (drop l.byte-index l.word))

-- What the text says is what its first word says with the numbers so far and the words that are left. Assumes nothing.
use Rattle.std.proofs.Common.{◌≡◌}
use Rattle.commands.specs.Words.{words}
use Rattle.commands.specs.Commands.{meant}
use Rattle.commands.proofs.Words.{left, left_length, said}
use Rattle.commands.proofs.read_words.Given as goal

abbrev pub invariant-loop-rest : goal.invariant-loop-rest
invariant-loop-rest l = meant (words l.text) ≡ said l.first l.numbers (left l.rest)

abbrev pub decreases-loop-rest : goal.decreases-loop-rest
decreases-loop-rest l = left_length l.rest

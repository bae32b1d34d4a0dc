-- `written_enquiries::write_found` meets its contract: nothing is written where nothing was searched for. Assumes nothing.
use Rattle.std.proofs.Common.{rules}
use Rattle.numbers.specs.Numbers.{over_bytes}
use Rattle.refusals.specs.Answers.{told}
use Rattle.written_enquiries.proofs.Found.{unsearched}
use Rattle.written_enquiries.proofs.write_found.Goals as goal

pub returns-in_default : goal.returns-in_default
unfolding over_bytes
returns-in_default c =
    rw (c.in_default.ensures, unsearched (told c.args.answer) c.in_default.ensures) (search rules)

-- All other rows are zero, or they are checked one by one.
use Rattle.std.proofs.Common.{sym, ◌∙◌}
use Rattle.rows.proofs.Zeros.{zeros_unused}
use Rattle.rows.proofs.check_unused.Goals as goal

pub returns-then-all_zero : goal.returns-then-all_zero
returns-then-all_zero c =
    sym (zeros_unused c.args.counted.notices.now c.args.counted.fits.long c.args.counted.fits.fits (sym c.all_zero.ensures ∙ c.if-all_zero.true))

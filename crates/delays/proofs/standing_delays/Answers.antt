-- The rows that stand are lent: as many as the area counts.
use Rattle.delays.proofs.LentRows.{rows_standing}
use Rattle.delays.proofs.standing_delays.Goals as goal

pub returns : goal.returns
returns c =
    rw (← (rows_standing c.args.counted.notices.now c.args.counted.fits)) c.primary_delays.ensures

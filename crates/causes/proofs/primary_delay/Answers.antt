-- One of the primary delays that are told by the notices that stand.
use Rattle.std.proofs.Common.{◌∙◌}
use Rattle.timetable.specs.Check.{max_connections}
use Rattle.delays.proofs.Walk.{zeros_none}
use Rattle.causes.proofs.primary_delay.Goals as goal

pub standing_delays-requires : goal.standing_delays-requires
standing_delays-requires c =
    zeros_none max_connections

pub returns : goal.returns
returns c =
    c.primary_in.ensures ∙ c.standing_delays.ensures.tells c.args.c c.requires

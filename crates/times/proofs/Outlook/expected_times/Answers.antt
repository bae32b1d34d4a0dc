-- The primary delays that are lent are told by the notices that stand. Assumes nothing.
use Rattle.std.proofs.Common.{◌∙◌, arith}
use Rattle.times.proofs.Delays.{delays_most, times_standing}
use Rattle.times.proofs.Outlook.expected_times.Goals as goal

pub fill_times-requires : goal.fill_times-requires
fill_times-requires c =
    (delays_most c.args.self.timetable.file.now c.args.self.notices.now c.standing_delays.new.primaries c.args.self.timetable.connections _ c.args.self.standing (omega arith) c.standing_delays.ensures, c.requires)

pub returns : goal.returns
returns c =
    c.fill_times.ensures
    ∙ times_standing c.args.self.timetable.file.now c.args.self.notices.now c.standing_delays.new.primaries c.args.self.timetable.connections _ c.args.self.standing (omega arith) c.standing_delays.ensures

-- `successions::follows` meets its contract. Assumes nothing.
use Rattle.std.proofs.Common.{◌≡◌, ℕ, ◌+◌, ◌-◌, ◌%◌, ◌^◌, arith}
use Rattle.timetable.specs.File.{trip}
use Rattle.successions.proofs.Wrapping.{step_wrong, step_right, step_mask}
use Rattle.successions.proofs.follows.Goals as goal

pub returns-then-step-gt1 : goal.returns-then-step-gt1
returns-then-step-gt1 c =
    let wrapped : ℕ = (c.trip.result + (65536 - c.trip-2.result)) % 65536 in
    let step : (wrapped + trip c.args.fields.file.now (c.args.c - 1)) % 2 ^ 16 ≡ trip c.args.fields.file.now c.args.c = omega arith in
    rw (step_wrong c.args.fields.file.now c.requires.0 step (omega arith) (omega arith))

pub joins-requires : goal.joins-requires
joins-requires c =
    let wrapped : ℕ = (c.trip.result + (65536 - c.trip-2.result)) % 65536 in
    let step : (wrapped + trip c.args.fields.file.now (c.args.c - 1)) % 2 ^ 16 ≡ trip c.args.fields.file.now c.args.c = omega arith in
    (c.requires.0.later, c.requires.1, step_mask c.args.fields.file.now c.requires.0 step (omega arith) (omega arith) (omega arith) (omega arith))

pub returns : goal.returns
returns c =
    let wrapped : ℕ = (c.trip.result + (65536 - c.trip-2.result)) % 65536 in
    let step : (wrapped + trip c.args.fields.file.now (c.args.c - 1)) % 2 ^ 16 ≡ trip c.args.fields.file.now c.args.c = omega arith in
    rw (step_right c.args.fields.file.now c.requires.0 step (omega arith) (omega arith)) c.joins.ensures

-- `successions::joins` meets its contract. Assumes nothing.
use Rattle.std.proofs.Common.{◌≡◌, ℕ, ◌+◌, ◌-◌, ◌%◌, ◌^◌, arith}
use Rattle.timetable.specs.File.{from, to}
use Rattle.successions.proofs.Wrapping.{joins_not, joins_by}
use Rattle.successions.proofs.joins.Goals as goal

pub returns-then-apart-mask-ne0 : goal.returns-then-apart-mask-ne0
returns-then-apart-mask-ne0 c =
    let wrapped : ℕ = (c.from.result + (65536 - c.to.result)) % 65536 in
    let apart : (wrapped + to c.args.fields.file.now (c.args.c - 1)) % 2 ^ 16 ≡ from c.args.fields.file.now c.args.c = omega arith in
    let f = c.args.fields.file.now in
    rw (joins_not f c.args.c c.requires.2 (omega arith) (omega arith) apart (λ z. omega arith))

pub returns : goal.returns
returns c =
    let wrapped : ℕ = (c.from.result + (65536 - c.to.result)) % 65536 in
    let apart : (wrapped + to c.args.fields.file.now (c.args.c - 1)) % 2 ^ 16 ≡ from c.args.fields.file.now c.args.c = omega arith in
    let f = c.args.fields.file.now in
    let j = joins_by f c.args.c c.requires.2 (omega arith) (omega arith) apart (omega arith) (omega arith) in
    rw (c.scheduled_arrival.ensures, c.scheduled_departure.ensures) j

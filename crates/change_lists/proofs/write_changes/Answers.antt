-- `change_lists::write_changes` meets its contract: each turn writes the line of one stop more. Assumes nothing.
use Rattle.std.proofs.Common.{◌≡◌, length, refl, ap, ◌∙◌, arith, length-append}
use lib.Seq.{length-sets}
use Rattle.decimals.proofs.Written.{then_written}
use Rattle.labels.proofs.Texts.{line_written}
use Rattle.change_lists.specs.ChangeText.{numbers_text}
use Rattle.change_lists.proofs.Texts.{change_more, change_fits, changes_all, changes_fit}
use Rattle.change_lists.proofs.write_changes.Goals as goal

pub loop-stop-init : goal.loop-stop-init
unfolding numbers_text
loop-stop-init c = record { next = refl; stands = refl }

pub put_number-at-requires : goal.put_number-at-requires
put_number-at-requires c =
    let o = c.args.timetable.opened in
    let out-length : length c.loop-stop.out ≡ length c.args.out.now = ap length c.loop-stop.invariant.stands ∙ simp length-sets in
    rw (c.transfer_time.ensures.value, length-append)
    (omega (arith, change_fits c.args.timetable.file.now o.timetable c.loop-stop.stop (omega (arith, o.stops)), c.loop-stop.invariant.next, o.stops, c.requires))

pub loop-stop-preserved : goal.loop-stop-preserved
loop-stop-preserved c =
    let o = c.args.timetable.opened in
    let w = rw c.transfer_time.ensures.value at c.put_number-at.ensures in
    rw (change_more c.args.timetable.file.now o.timetable c.loop-stop.stop (omega (arith, o.stops))) at (then_written c.loop-stop.invariant w)

pub returns : goal.returns
returns c =
    let o = c.args.timetable.opened in
    let f = c.args.timetable.file.now in
    let w = rw (changes_all f o.timetable c.loop-stop.stop (omega (arith, o.stops))) at c.loop-stop.invariant in
    line_written w (omega (arith, changes_fit f o.timetable, o.stops, c.requires))

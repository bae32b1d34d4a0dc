-- `change_lists::write_changes` meets its contract: each turn writes the line of one stop more. Assumes nothing.
use Rattle.std.proofs.Common.{take}
use Rattle.numbers.specs.Numbers.{numbers_of}
use Rattle.decimals.specs.Written.{Written}
use Rattle.gtfs.specs.Files.{transfers_in}
use Rattle.change_lists.specs.ChangeText.{numbers_text}
use Rattle.change_lists.proofs.write_changes.Given as goal

abbrev pub invariant-loop-stop : goal.invariant-loop-stop
invariant-loop-stop l = Written l.at l.out l.initial.out 0 (numbers_text (take l.stop (numbers_of (transfers_in l.timetable.file.now))))

-- `checks::examine` meets its contract. Assumes nothing.
use Rattle.std.proofs.Common.{◌≡◌, sym}
use Rattle.timetable.specs.Accepted.{Opened}
use Rattle.refusals.specs.Answers.{Passed}
use Rattle.model.specs.Day.{day_of, lent}
use Rattle.model.specs.Parts.{areas_verdict}
use Rattle.model.proofs.Ready.{open_accepted}
use Rattle.std.proofs.lemmas.Result.{err_from_is_err_and}
use Rattle.checks.proofs.examine.Goals as goal

pub returns-in_err-areas_verdict : goal.returns-in_err-areas_verdict
returns-in_err-areas_verdict c =
    let p = err_from_is_err_and c.from_residual.result c.from_residual.ensures.1 in
    rw (p.1, p.2) (record {
      verdict = rw (← c.in-Ok.ensures.verdict, ← c.in-Ok.ensures.of_the_file, ← c.in_err-areas_verdict.ensures);
      counts = rw (← c.in-Ok.ensures.verdict, ← c.in-Ok.ensures.of_the_file, ← c.in_err-areas_verdict.ensures);
      of_the_file = tt;
    })

pub returns : goal.returns
returns c =
    let opened : Opened c.args.file.now c.in-Ok.timetable.stops c.in-Ok.timetable.connections =
    rw c.in-Ok.ensures.of_the_file at c.in-Ok.timetable.opened in
    let passed : areas_verdict (day_of c.args.file.now) (lent c.args.areas.notices.now c.args.areas.graph.now) ≡ Passed =
    sym (rw c.in-Ok.ensures.of_the_file at c.in_ok-areas_verdict.ensures) in
    record {
      verdict = rw (← c.in-Ok.ensures.verdict, passed);
      counts = open_accepted _ _ _ _ opened passed;
      of_the_file = c.in-Ok.ensures.of_the_file;
    }

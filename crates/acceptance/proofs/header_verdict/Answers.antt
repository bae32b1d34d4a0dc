-- `acceptance::header_verdict` meets its contract: at each return, which refusals are past. Assumes nothing.
use Rattle.std.proofs.Common.{sym, ◌∙◌, arith}
use Rattle.timetable.specs.Refusals.{Past1, Past2, Past3, Past4, Past5}
use Rattle.timetable.proofs.Tests.{not_both}
use Rattle.timetable.proofs.Rules.{header1, header2, header3, header4, header5, header6, header_passes}
use Rattle.acceptance.proofs.header_verdict.Goals as goal

pub returns-then-file-lt-HEADER_LENGTH : goal.returns-then-file-lt-HEADER_LENGTH
returns-then-file-lt-HEADER_LENGTH c =
    sym (header1 c.args.file.now (λ h. omega arith))

pub returns-then-not-is_marked : goal.returns-then-not-is_marked
returns-then-not-is_marked c =
    let past1 : Past1 c.args.file.now = record { header = omega arith } in
    sym (header2 c.args.file.now past1 (λ h. not_both h (sym c.is_marked.ensures ∙ c.if-not-is_marked.true)))

pub returns-then-number_at-ne-FORMAT_VERSION : goal.returns-then-number_at-ne-FORMAT_VERSION
returns-then-number_at-ne-FORMAT_VERSION c =
    let past1 : Past1 c.args.file.now = record { header = omega arith } in
    let past2 : Past2 c.args.file.now = record { before = past1; mark = sym c.is_marked.ensures ∙ c.if-not-is_marked.false } in
    sym (header3 c.args.file.now past2 (λ h. omega arith))

pub returns-then-s-lt1 : goal.returns-then-s-lt1
returns-then-s-lt1 c =
    let past1 : Past1 c.args.file.now = record { header = omega arith } in
    let past2 : Past2 c.args.file.now = record { before = past1; mark = sym c.is_marked.ensures ∙ c.if-not-is_marked.false } in
    let past3 : Past3 c.args.file.now = record { before = past2; version = omega arith } in
    sym (header4 _ past3 (λ h. let l = h.some_stops in omega arith))

pub returns-then-s-gt-MAX_STOPS : goal.returns-then-s-gt-MAX_STOPS
returns-then-s-gt-MAX_STOPS c =
    let past1 : Past1 c.args.file.now = record { header = omega arith } in
    let past2 : Past2 c.args.file.now = record { before = past1; mark = sym c.is_marked.ensures ∙ c.if-not-is_marked.false } in
    let past3 : Past3 c.args.file.now = record { before = past2; version = omega arith } in
    sym (header4 _ past3 (λ h. let l = h.few_stops in omega arith))

pub returns-then-n-gt-MAX_CONNECTIONS : goal.returns-then-n-gt-MAX_CONNECTIONS
returns-then-n-gt-MAX_CONNECTIONS c =
    let past1 : Past1 c.args.file.now = record { header = omega arith } in
    let past2 : Past2 c.args.file.now = record { before = past1; mark = sym c.is_marked.ensures ∙ c.if-not-is_marked.false } in
    let past3 : Past3 c.args.file.now = record { before = past2; version = omega arith } in
    let past4 : Past4 c.args.file.now = record { before = past3; stop_count_lem = record { some_stops = omega arith; few_stops = omega arith } } in
    sym (header5 _ past4 (λ h. omega arith))

pub returns-then-file-s : goal.returns-then-file-s
returns-then-file-s c =
    let past1 : Past1 c.args.file.now = record { header = omega arith } in
    let past2 : Past2 c.args.file.now = record { before = past1; mark = sym c.is_marked.ensures ∙ c.if-not-is_marked.false } in
    let past3 : Past3 c.args.file.now = record { before = past2; version = omega arith } in
    let past4 : Past4 c.args.file.now = record { before = past3; stop_count_lem = record { some_stops = omega arith; few_stops = omega arith } } in
    let past5 : Past5 c.args.file.now = record { before = past4; few = omega arith } in
    sym (header6 _ past5 (λ h. omega arith))

pub returns : goal.returns
returns c =
    let past1 : Past1 c.args.file.now = record { header = omega arith } in
    let past2 : Past2 c.args.file.now = record { before = past1; mark = sym c.is_marked.ensures ∙ c.if-not-is_marked.false } in
    let past3 : Past3 c.args.file.now = record { before = past2; version = omega arith } in
    let past4 : Past4 c.args.file.now = record { before = past3; stop_count_lem = record { some_stops = omega arith; few_stops = omega arith } } in
    let past5 : Past5 c.args.file.now = record { before = past4; few = omega arith } in
    sym (header_passes _ (record { before = past5; long = omega arith }))

-- `imports::make_file` meets its contract: the text's refusal, then those of the counts, then those of the file. Assumes nothing.
use Rattle.std.proofs.Common.{◌+◌, ◌-◌, ◌*◌, ◌/◌, length, sym, refl, ◌∙◌, arith}
use borrow.Rule.Slice.PartMut.{mid_len}
use Rattle.numbers.specs.Numbers.{numbers_of}
use Rattle.numbers.proofs.Areas.{length_numbers}
use Rattle.timetable.specs.File.{header_length}
use Rattle.gtfs.specs.Conversions.{text_connections}
use Rattle.gtfs.proofs.Imports.{counts_pass, text_refused, file_decides}
use Rattle.feeds.specs.Progress.{connections_room}
use Rattle.imports.proofs.Making.{file_of_text, made_refused, made_no_stops, made_many_stops, made_many_connections, made_checked}
use Rattle.std.proofs.lemmas.Result.{err_from_is_err_and}
use Rattle.imports.proofs.make_file.Goals as goal

pub read_rows-requires : goal.read_rows-requires
read_rows-requires c =
    let a = c.args in
    let at = header_length + 2 * c.min.result in
    mid_len at (at + connections_room) a.file.now (omega arith) ∙ omega arith

pub returns-in_err-n : goal.returns-in_err-n
returns-in_err-n c =
    let p = err_from_is_err_and c.from_residual.result c.from_residual.ensures.1 in
    rw (p.1, p.2) (made_refused _ (text_refused _ _ (sym c.in_err-n.ensures.verdict)))

pub returns-then-s-lt1 : goal.returns-then-s-lt1
returns-then-s-lt1 c = made_no_stops c.in_ok-n.ensures _ refl refl c.if-s-lt1.true

pub returns-then-s-gt-MAX_STOPS : goal.returns-then-s-gt-MAX_STOPS
returns-then-s-gt-MAX_STOPS c = made_many_stops c.in_ok-n.ensures _ refl refl c.if-s-gt-MAX_STOPS.true

pub returns-then-n-gt-MAX_CONNECTIONS : goal.returns-then-n-gt-MAX_CONNECTIONS
returns-then-n-gt-MAX_CONNECTIONS c =
    made_many_connections c.in_ok-n.ensures _ refl refl c.if-s-lt1.false c.if-s-gt-MAX_STOPS.false c.if-n-gt-MAX_CONNECTIONS.true

pub finish_file-requires : goal.finish_file-requires
finish_file-requires c = record {
  stops = sym (length_numbers c.args.change.now);
  few_stops = omega arith;
  few = omega arith;
  room = omega arith;
}

pub returns : goal.returns
returns c =
    let a = c.args in
    let l = length_numbers a.change.now in
    let counted = c.in_ok-n.ensures.count _ refl in
    let s = length (numbers_of a.change.now) in
    let n = length (text_connections a.text.now) in
    let at = header_length + 2 * c.min.result in
    made_checked c.finish_file.ensures
    (file_of_text a.file.now c.read_rows.new.area a.text.now a.change.now at (at + connections_room - at)
    (length a.change.now / 2) c.in_ok-n.n
    (λ i. (c.type_inv.change i).fits)
    (sym l) counted (omega arith) (omega arith) (omega (arith, mid_len at (at + connections_room) a.file.now (omega arith)))
    (c.in_ok-n.ensures.stands _ refl c.if-n-gt-MAX_CONNECTIONS.false))
    (file_decides _ _ (sym c.in_ok-n.ensures.verdict) (counts_pass s n (omega arith) (omega arith) (omega (arith, counted))))

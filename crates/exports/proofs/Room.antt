-- The rows of a connection have room where both together have it. Assumes nothing.
use Rattle.std.proofs.Common.{◌≡◌, ℕ, ◌+◌, ◌<◌, ◌≤◌, List, length, sym, ap, ◌∙◌, arith}
use Rattle.timetable.specs.File.{connections}
use Rattle.timetable.specs.Accepted.{Opened}
use Rattle.gtfs.specs.declared.StopTime.{StopTime}
use Rattle.gtfs.specs.StopTimes.{row_text}
use Rattle.gtfs.specs.Rows.{position, start_row, end_row}
use Rattle.gtfs.proofs.Rows.{stay_text, begin_length, start_short, end_short, departs_within, leaves_within}
use Rattle.exports.specs.Room.{RowsFit}
use Rattle.row_texts.specs.Room.{RowFits}

module _ {f : List ℕ} {s n c p at : ℕ} {text : List ℕ} (o : Opened f s n) (h : RowsFit f n c p at text) where
  counted : c < connections f
  counted = omega (arith, h.below, o.connections)

  -- where a trip begins, its first row
  pub first_fits : {row : StopTime} → p ≡ 0 → row ≡ start_row f c → RowFits row at text
  first_fits z e =
      let d = departs_within f o.timetable c counted in
      let l = begin_length f c (sym h.place ∙ z) in
      record { arrives = rw e (omega arith); departs = rw e (omega arith); room = rw e (omega (arith, h.room)) }

  -- the row of the stop that the connection goes to
  end_fits : {row : StopTime} {out : List ℕ} {next : ℕ} → row ≡ end_row f c → next + length (row_text (end_row f c)) ≤ length out
      → RowFits row next out
  end_fits e room =
      let t = o.timetable in
      let a = t.within c counted in
      let d = leaves_within f t c counted in
      record { arrives = rw e (omega arith); departs = rw e (omega arith); room = rw e room }

  -- after the first row, and alone
  pub second_fits : {row first : StopTime} {out : List ℕ} {next : ℕ} → p ≡ 0 → first ≡ start_row f c → row ≡ end_row f c
      → next ≡ at + length (row_text first) → length out ≡ length text → RowFits row next out
  second_fits z e g a l =
      let b = begin_length f c (sym h.place ∙ z) in
      end_fits g (omega (arith, h.room, rw e at a))

  pub only_fits : {row : StopTime} → (p ≡ 0 → ⊥) → row ≡ end_row f c → RowFits row at text
  only_fits z e =
      let l = ap length (stay_text f c (λ (q : position f c ≡ 0). z (h.place ∙ q))) in
      end_fits e (omega (arith, h.room))

-- what the length of a connection's rows goes by
pub ruleset lengths = (stay_text, begin_length, start_short, end_short)

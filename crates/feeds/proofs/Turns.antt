-- The loop over the lines of a text: what holds before each line, what a turn leaves of it, and what it says at the end.
-- Assumes nothing.
use Rattle.std.proofs.Common.{◌≡◌, ℕ, suc, ◌+◌, ◌<◌, ◌≤◌, true, false, ◌&&◌, eqb, ltb, List, ◌∷◌, length, drop, is_some, Some, None, Option, sym, refl, ap, ◌∙◌, ⊎_elim, arith, length-append, length-drop, drop_of_length-le, ltb-true, ne_eqb}
use mathlib.Core.List.{foldl}
use lib.Seq.{length-sets}
use Rattle.std.proofs.lemmas.Option.{none-some, some_pair_parts}
use Rattle.decimals.specs.Bytes.{newline}
use Rattle.timetable.specs.Check.{max_connections}
use Rattle.refusals.specs.Answers.{Passed, Refused}
use Rattle.timetable.proofs.Tests.{by_bool}
use Rattle.cuts.specs.Cut.{has, before, after, pieces, lines_of}
use Rattle.cuts.proofs.Cut.{has_end, lines_last, starts_append}
use Rattle.cuts.proofs.Pieces.{piece_after}
use Rattle.refusals.specs.RefusalNumber as refusal
use Rattle.gtfs.specs.declared.StopTime.{StopTime}
use Rattle.gtfs.specs.StopTimes.{header_text, row_of, row_in}
use Rattle.gtfs.specs.Feed.{may_follow, lines_verdict, rows_in, rows_of, body_of}
use Rattle.gtfs.proofs.Lines.{first_judged, first_row}
use Rattle.cuts.specs.Columns.{with_next}
use Rattle.stop_times.specs.Columns.{line_at}
use Rattle.feeds.specs.declared.Progress.{Progress}
use Rattle.feeds.specs.Progress.{advanced, connected}
use Rattle.feeds.specs.Reading.{Taking, Taken, Reading, turned, area_after}
use Rattle.feeds.proofs.Knowledge.{start, filled, tells, row_more}

-- the lines of a text from a place on
abbrev pub lines_at : List ℕ → ℕ → List (List ℕ)
lines_at text at = lines_of (drop at text)

-- what holds before each line: what is left to do, on what is known now, gives what the whole gives from the start
pub record Reached (text first area : List ℕ) (p : Progress) (at : ℕ) : Type 0 where
  pub within : Taking text at p area
  pub lines : lines_verdict (suc p.row) p.trips p.sequence (lines_at text at) ≡ lines_verdict 1 0 0 (lines_of (body_of text))
  pub known : foldl advanced p (rows_in (lines_at text at)) ≡ foldl advanced start (rows_of text)
  pub made : filled p (rows_in (lines_at text at)) area ≡ filled start (rows_of text) first

-- before the first row
pub reached_first : (text area : List ℕ) → Reading text area → Reached text area area start (length header_text)
reached_first text area h =
    let l : length text ≡ length header_text + length (body_of text) =
    ap length (starts_append header_text text h.header) ∙ length-append header_text (body_of text) in
    record {
      within = record { place = omega arith; rows = omega arith; few = omega arith; room = h.room };
      lines = refl;
      known = refl;
      made = refl;
    }

-- a line that is a row
line_row : (r : Option StopTime) (m : ℕ) (row : StopTime) (next : ℕ) → with_next r m ≡ Some (row, next)
    → (r ≡ Some row) × (m ≡ next)
line_row (Some x) m row next h = let e = some_pair_parts x row m next h in (ap Some e.0, e.1)
line_row None m row next h = absurd (none-some (row, next) h)

module _ (text : List ℕ) (at : ℕ) where
  -- a row at a place of a text: a newline ends it, and the next line starts after that
  pub record RowAt (row : StopTime) (next : ℕ) : Type 0 where
    pub ended : has newline (drop at text) ≡ true
    pub reads : row_of (before newline (drop at text)) ≡ Some row
    pub starts : at + length (before newline (drop at text)) + 1 ≡ next

  row_at_lem : (row : StopTime) (next : ℕ) → line_at text at ≡ Some (row, next) → RowAt row next
  row_at_lem row next h =
      ⊎_elim
      (λ (e : has newline (drop at text) ≡ true).
      let l = line_row (row_of (before newline (drop at text))) _ row next (rw e at h) in
      record { ended = e; reads = l.0; starts = l.1 })
      (λ (e : has newline (drop at text) ≡ false).
      absurd (none-some (row, next) (rw e at h)))
      (by_bool (has newline (drop at text)))

  module _ {row : StopTime} {next : ℕ} (l : RowAt row next) where
    rest_is : after newline (drop at text) ≡ drop next text
    rest_is = rw (← l.starts) (sym (piece_after newline text at (at + length (before newline (drop at text))) refl))

    next_place : (at < next) × (next ≤ length text)
    next_place =
        let k = length (before newline (drop at text)) in
        let n = ltb-true k (length (drop at text)) (sym (has_end newline (drop at text)) ∙ l.ended) in
        (omega (arith, l.starts), omega (arith, n, l.starts, length-drop at text))

    rows_turn : rows_in (lines_at text at) ≡ row ∷ rows_in (lines_at text next)
    rows_turn = first_row (drop at text) l.ended ∙ rw (l.reads, rest_is)

    -- if it may follow, the other lines decide
    lines_turn : (p : Progress) → may_follow p.trips p.sequence row ≡ true
        → lines_verdict (suc p.row) p.trips p.sequence (lines_at text at)
        ≡ lines_verdict (suc (advanced p row).row) (advanced p row).trips (advanced p row).sequence (lines_at text next)
    lines_turn p follows =
        first_judged (drop at text) l.ended (suc p.row) p.trips p.sequence
        ∙ rw (l.reads, follows, rest_is, row_more p row, (tells p row).began, (tells p row).sequence)

-- no more connections than rows, and the area keeps its length
module _ (p : Progress) (row : StopTime) where
  few_more : p.connections ≤ p.row → (advanced p row).connections ≤ (advanced p row).row
  few_more few =
      ⊎_elim
      (λ (e : eqb (row.trip + 1) p.trips ≡ true). rw (advanced, e) (omega arith))
      (λ (e : eqb (row.trip + 1) p.trips ≡ false). rw (advanced, e) (omega arith))
      (by_bool (eqb (row.trip + 1) p.trips))

  room_stays : (area : List ℕ) → length (connected p row area) ≡ length area
  room_stays area =
      let made = eqb (row.trip + 1) p.trips && ltb p.connections max_connections in
      ⊎_elim (λ (e : made ≡ true). rw (connected, e) (simp length-sets)) (λ (e : made ≡ false). rw (connected, e)) (by_bool made)

module _ {text first area : List ℕ} {p : Progress} {at : ℕ} (h : Reached text first area p at) where
  -- a row that may follow
  reached_row : (row : StopTime) (next : ℕ) → RowAt text at row next → may_follow p.trips p.sequence row ≡ true
      → (at < next) × Reached text first (connected p row area) (advanced p row) next
  unfolding filled
  reached_row row next l follows =
      let s = next_place text at l in
      let w = h.within in (
        s.0,
        record {
          within =
              record {
                place = s.1;
                rows = omega (arith, s.0, row_more p row, w.rows);
                few = few_more p row w.few;
                room = room_stays p row area ∙ w.room;
              };
          lines = sym (lines_turn text at l p follows) ∙ h.lines;
          known = rw (rows_turn text at l) at h.known;
          made = rw (rows_turn text at l) at h.made;
        },
      )

  -- a turn that goes on
  reached_line : (l : Option (StopTime × ℕ)) → line_at text at ≡ l → {after : Progress} {next : ℕ} → turned p l ≡ Some (after, next)
      → (at < next) × Reached text first (area_after p l area) after next
  reached_line (Some (row, n)) e {after} {next} t =
      ⊎_elim
      (λ (f : may_follow p.trips p.sequence row ≡ true).
      let o = some_pair_parts (advanced p row) after n next (rw (turned, f) at t) in
      rw (area_after, f, ← o.0, ← o.1) (reached_row row n (row_at_lem text at row n e) f))
      (λ (f : may_follow p.trips p.sequence row ≡ false). absurd (none-some (after, next) (rw (turned, f) at t)))
      (by_bool (may_follow p.trips p.sequence row))
  reached_line None e {after} {next} t = absurd (none-some (after, next) t)

  pub reached_next : {r : Option (Progress × ℕ)} {left : List ℕ} {after : Progress} {next : ℕ} → Taken r left area text at p → r ≡ Some (after, next)
      → (at < next) × Reached text first left after next
  reached_next t e = rw t.area (reached_line (line_at text at) refl (sym t.turn ∙ e))

  -- a line that is no row that may follow
  wrong_line : (r : Option StopTime) (next : ℕ) → turned p (with_next r next) ≡ None
      → is_some r && may_follow p.trips p.sequence (row_in r) ≡ false
  wrong_line (Some row) next t =
      ⊎_elim
      (λ (f : may_follow p.trips p.sequence row ≡ true). absurd (none-some (advanced p row, next) (sym (rw (turned, f) at t))))
      (λ (f : may_follow p.trips p.sequence row ≡ false). f)
      (by_bool (may_follow p.trips p.sequence row))
  wrong_line None next t = refl

  -- a turn that ends at such a line
  pub reached_wrong : {r : Option (Progress × ℕ)} {left : List ℕ} → at < length text → Taken r left area text at p → r ≡ None
      → lines_verdict 1 0 0 (lines_of (body_of text)) ≡ Refused refusal.wrong_text_row (suc p.row)
  unfolding lines_verdict
  reached_wrong inside t e =
      let rest = drop at text in
      sym h.lines
      ∙ ⊎_elim
      (λ (n : has newline rest ≡ true).
      first_judged rest n (suc p.row) p.trips p.sequence
      ∙ rw (wrong_line (row_of (before newline rest)) _ (rw n at (sym t.turn ∙ e))))
      (λ (n : has newline rest ≡ false).
      rw (lines_last rest n, ne_eqb (length rest) 0 (λ (z : length rest ≡ 0). omega (arith, length-drop at text))))
      (by_bool (has newline rest))

  -- the end of the text
  pub reached_end : length text ≤ at
      → (lines_verdict 1 0 0 (lines_of (body_of text)) ≡ Passed)
      × (p ≡ foldl advanced start (rows_of text)) × (area ≡ filled start (rows_of text) first)
  unfolding lines_verdict pieces rows_in filled
  reached_end past =
      let e = drop_of_length-le text {i = at} past in
      (sym (rw e at h.lines), rw e at h.known, rw e at h.made)

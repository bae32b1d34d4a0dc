-- Texts of rows are accepted, and refused with 31 at a place, exactly as they have to be. Assumes nothing.
use Rattle.std.proofs.Common.{◌≡◌, ℕ, zero, suc, ◌+◌, ◌<◌, Bool, true, false, ◌&&◌, ◌⊎◌, ◌↔◌, List, [], ◌∷◌, ◌++◌, length, is_some, Some, None, Option, sym, refl, ap, ◌∙◌, inl, inr, ⊎_elim, append-nil, add-zero, arith, length-append, ne_eqb}
use lib.Seq.{drop-append_seam}
use Rattle.decimals.specs.Bytes.{newline}
use Rattle.refusals.specs.Answers.{Passed, Refused}
use Rattle.timetable.proofs.Tests.{by_bool, not_both}
use Rattle.timetable.proofs.Order.{passed_not_refused}
use Rattle.cuts.specs.Cut.{has, before, after, starts_with, lines_of}
use Rattle.gtfs.specs.StopTimes.{header_text, row_of, row_in}
use Rattle.refusals.specs.RefusalNumber as refusal
use Rattle.gtfs.specs.Feed.{may_follow, lines_verdict, rows_in, alone_verdict, body_of, rows_of, text_verdict}
use Rattle.gtfs.specs.declared.StopTime.{StopTime}
use Rattle.cuts.proofs.Cut.{cut_whole, before_end, after_end, has_cut, lines_last, starts_append, starts_with_lem}
use Rattle.gtfs.proofs.Lines.{first_judged, first_row}
use Rattle.gtfs.proofs.RowsRead.{Follow}
use Rattle.feed_meanings.specs.Words.{IsRow}
use Rattle.feed_meanings.specs.Texts.{Lines, no_line, line_first, Front, GoodText, NextRow, WrongText, wrong_header, wrong_row, alone_row}
use Rattle.feed_meanings.proofs.Words.{both}
use Rattle.feed_meanings.proofs.Columns.{row_without, row_iff}
use Rattle.feed_meanings.proofs.Order.{trips_after, sequence_after, follow_iff, next_iff}
use Rattle.feed_meanings.proofs.Alone.{alone_passed, alone_refused}

-- a line that is a row, with its newline
module _ {line : List ℕ} {row : StopTime} (text : List ℕ) (r : IsRow line row) where
  abbrev ended : List ℕ
  ended = line ++ (newline ∷ text)

  row_newline : has newline ended ≡ true
  row_newline = has_cut newline line text

  row_before : before newline ended ≡ line
  row_before = before_end newline line text (row_without newline refl refl refl r)

  row_after : after newline ended ≡ text
  row_after = after_end newline line text (row_without newline refl refl refl r)

  row_passed : (k trips sequence : ℕ) → may_follow trips sequence row ≡ true
      → lines_verdict k trips sequence (lines_of ended) ≡ lines_verdict (suc k) (suc row.trip) row.sequence (lines_of text)
  row_passed k trips sequence h =
      first_judged ended row_newline k trips sequence ∙ rw (row_before, row_after, (row_iff line row).1 r, h)

  row_in_lem : rows_in (lines_of ended) ≡ row ∷ rows_in (lines_of text)
  row_in_lem = first_row ended row_newline ∙ rw (row_before, row_after, (row_iff line row).1 r)

-- rows in order are passed by
rows_passed : {text rest : List ℕ} {rows : List StopTime} → Lines text rows rest → (k trips sequence : ℕ) → Follow trips sequence rows
    → lines_verdict k trips sequence (lines_of text)
    ≡ lines_verdict (k + length rows) (trips_after trips rows) (sequence_after sequence rows) (lines_of rest)
rows_passed no_line k trips sequence o = rw (add-zero k)
rows_passed (line_first {text = text} {row = row} {rows = rows} r ls) k trips sequence o =
    let e : k + suc (length rows) ≡ suc k + length rows = omega arith in
    row_passed text r k trips sequence o.0 ∙ rw e (rows_passed ls (suc k) (suc row.trip) row.sequence o.1)

-- they are the text's rows, then those of the rest
rows_in_lem : {text rest : List ℕ} {rows : List StopTime} → Lines text rows rest → rows_in (lines_of text) ≡ rows ++ rows_in (lines_of rest)
rows_in_lem no_line = refl
rows_in_lem (line_first {text = text} {row = row} r ls) = row_in_lem text r ∙ ap (◌∷◌ row) (rows_in_lem ls)

-- where nothing is left
no_newline : has newline [] ≡ false
unfolding has
no_newline = refl

none_left : (k trips sequence : ℕ) → lines_verdict k trips sequence (lines_of []) ≡ Passed
unfolding lines_verdict
none_left k trips sequence = rw (lines_last [] no_newline)

nothing : (l : List ℕ) → length l ≡ 0 → l ≡ []
nothing [] h = refl
nothing (b ∷ l) h = absurd (omega arith)

-- a row that may come next
pub record Next (trips sequence : ℕ) (rest : List ℕ) : Type 0 where
  pub line : List ℕ
  pub after : List ℕ
  pub row : StopTime
  pub ended : rest ≡ line ++ (newline ∷ after)
  pub is_row_lem : IsRow line row
  pub may : may_follow trips sequence row ≡ true

-- the row of a line that is one
row_from : (row : Option StopTime) → is_some row ≡ true → row ≡ Some (row_in row)
row_from (Some row) h = refl
row_from None h = absurd (not_both h refl)

-- whether a line is a row that may come next
abbrev next_test : ℕ → ℕ → List ℕ → Bool
next_test trips sequence line = is_some (row_of line) && may_follow trips sequence (row_in (row_of line))

module _ (trips sequence : ℕ) (rest : List ℕ) where
  -- what is left begins with such a row exactly if it has a newline and what stands before it passes the test
  next_from : has newline rest ≡ true → next_test trips sequence (before newline rest) ≡ true → Next trips sequence rest
  next_from h t =
      let line = before newline rest in
      let b = both (is_some (row_of line)) (may_follow trips sequence (row_in (row_of line))) t in
      record {
        line = line;
        after = after newline rest;
        row = row_in (row_of line);
        ended = cut_whole newline rest h;
        is_row_lem = (row_iff line (row_in (row_of line))).0 (row_from (row_of line) b.0);
        may = b.1;
      }

  next_ended : Next trips sequence rest → has newline rest ≡ true
  next_ended x = rw x.ended (has_cut newline x.line x.after)

  next_test_lem : Next trips sequence rest → next_test trips sequence (before newline rest) ≡ true
  next_test_lem x =
      let n = row_without newline refl refl refl x.is_row_lem in
      rw (x.ended, before_end newline x.line x.after n, (row_iff x.line x.row).1 x.is_row_lem) x.may

  next_or_not : Next trips sequence rest ⊎ (Next trips sequence rest → ⊥)
  next_or_not =
      ⊎_elim
      (λ h.
      ⊎_elim
      (λ t. inl (next_from h t))
      (λ t. inr (λ x. not_both (next_test_lem x) t))
      (by_bool (next_test trips sequence (before newline rest))))
      (λ h. inr (λ x. not_both (next_ended x) h))
      (by_bool (has newline rest))

  -- where it does not, and something is left, the verdict is 31 there
  not_ended : (rest ≡ [] → ⊥) → (k : ℕ) → has newline rest ≡ false
      → lines_verdict k trips sequence (lines_of rest) ≡ Refused refusal.wrong_text_row k
  unfolding lines_verdict
  not_ended some k h = rw (lines_last rest h, ne_eqb (length rest) 0 (λ e. some (nothing rest e)))

  wrong_line : (Next trips sequence rest → ⊥) → (k : ℕ) → has newline rest ≡ true
      → lines_verdict k trips sequence (lines_of rest) ≡ Refused refusal.wrong_text_row k
  wrong_line none k h =
      let t : next_test trips sequence (before newline rest) ≡ false =
      ⊎_elim (λ t. absurd (none (next_from h t))) (λ t. t) (by_bool (next_test trips sequence (before newline rest))) in
      first_judged rest h k trips sequence ∙ rw t

  stops_here : (rest ≡ [] → ⊥) → (Next trips sequence rest → ⊥) → (k : ℕ)
      → lines_verdict k trips sequence (lines_of rest) ≡ Refused refusal.wrong_text_row k
  stops_here some none k = ⊎_elim (wrong_line none k) (not_ended some k) (by_bool (has newline rest))

-- the rows that a text begins with, as many as are right
pub record Longest (trips sequence : ℕ) (text : List ℕ) : Type 0 where
  pub rows : List StopTime
  pub rest : List ℕ
  pub lines : Lines text rows rest
  pub ordered : Follow trips sequence rows
  pub no_more : Next (trips_after trips rows) (sequence_after sequence rows) rest → ⊥

one_more : {trips sequence : ℕ} {text : List ℕ} (x : Next trips sequence text) → Longest (suc x.row.trip) x.row.sequence x.after
    → Longest trips sequence text
one_more x m =
    record {
      rows = x.row ∷ m.rows;
      rest = m.rest;
      lines = rw x.ended (line_first x.is_row_lem m.lines);
      ordered = (x.may, m.ordered);
      no_more = m.no_more;
    }

longest : (n : ℕ) (text : List ℕ) → length text < n → (trips sequence : ℕ) → Longest trips sequence text
longest zero text h trips sequence = absurd (omega arith)
longest (suc n) text h trips sequence =
    ⊎_elim
    (λ (x : Next trips sequence text).
    let l = simp length-append at (ap length x.ended) in
    one_more x (longest n x.after (omega arith) (suc x.row.trip) x.row.sequence))
    (λ x. record { rows = []; rest = text; lines = no_line; ordered = tt; no_more = x })
    (next_or_not trips sequence text)

-- the next row in words
next_words : (rows : List StopTime) (rest : List ℕ) → Next (trips_after 0 rows) (sequence_after 0 rows) rest ↔ NextRow rows rest
next_words rows rest = (
  λ x.
      record {
        line = x.line;
        after = x.after;
        row = x.row;
        ended = x.ended;
        is_row_lem = x.is_row_lem;
        in_place = (next_iff rows x.row).0 x.may;
      },
  λ x.
      record {
        line = x.line;
        after = x.after;
        row = x.row;
        ended = x.ended;
        is_row_lem = x.is_row_lem;
        may = (next_iff rows x.row).1 x.in_place;
      },
)

-- a text that begins with its first line
starts_iff : (text : List ℕ) → (starts_with header_text text ≡ true) ↔ ((body : List ℕ) × (text ≡ header_text ++ body))
starts_iff text = (λ h. (body_of text, starts_append header_text text h), λ h. rw h.1 (starts_with_lem header_text h.0))

-- the lines after it, up to what is left
module _ {text rest : List ℕ} {rows : List StopTime} (f : Front text rows rest) where
  front_starts : starts_with header_text text ≡ true
  front_starts = (starts_iff text).1 (f.body, f.header)

  front_body : body_of text ≡ f.body
  front_body = rw f.header (drop-append_seam header_text f.body)

  front_rows : rows_of text ≡ rows ++ rows_in (lines_of rest)
  front_rows = rw front_body (rows_in_lem f.lines)

  front_lines : lines_verdict 1 0 0 (lines_of (body_of text))
      ≡ lines_verdict (suc (length rows)) (trips_after 0 rows) (sequence_after 0 rows) (lines_of rest)
  front_lines =
      let e : suc (length rows) ≡ 1 + length rows = omega arith in
      rw (front_body, e) (rows_passed f.lines 1 0 0 ((follow_iff rows).1 f.in_order))

-- a text whose first line is another
header_verdict_lem : (text : List ℕ) → ((body : List ℕ) → text ≡ header_text ++ body → ⊥) → text_verdict text ≡ Refused refusal.wrong_text_row 0
unfolding text_verdict
header_verdict_lem text h =
    ⊎_elim
    (λ e. absurd (let b = (starts_iff text).0 e in h b.0 b.1))
    (λ e. rw e)
    (by_bool (starts_with header_text text))

-- one with something wrong after its rows
broken_verdict : {text rest : List ℕ} {rows : List StopTime} → Front text rows rest → (rest ≡ [] → ⊥) → (NextRow rows rest → ⊥)
    → text_verdict text ≡ Refused refusal.wrong_text_row (suc (length rows))
unfolding text_verdict
broken_verdict {rest = rest} {rows = rows} f some none =
    let no_more : Next (trips_after 0 rows) (sequence_after 0 rows) rest → ⊥ = λ x. none ((next_words rows rest).0 x) in
    rw (front_starts f, front_lines f, stops_here (trips_after 0 rows) (sequence_after 0 rows) rest some no_more (suc (length rows)))

-- one that is right up to its end
whole_rows : {text : List ℕ} {rows : List StopTime} → Front text rows [] → rows_of text ≡ rows
unfolding rows_in
whole_rows {rows = rows} f = front_rows f ∙ rw (lines_last [] no_newline, append-nil rows)

whole_verdict : {text : List ℕ} {rows : List StopTime} → Front text rows [] → text_verdict text ≡ alone_verdict 1 false rows
unfolding text_verdict
whole_verdict {rows = rows} f =
    rw (front_starts f, front_lines f, none_left (suc (length rows)) (trips_after 0 rows) (sequence_after 0 rows), whole_rows f)

-- there is no other
data Case (text : List ℕ) : Type 0 where
  other_header : ((body : List ℕ) → text ≡ header_text ++ body → ⊥) → Case text
  broken : {rows : List StopTime} {rest : List ℕ} → Front text rows rest → (rest ≡ [] → ⊥) → (NextRow rows rest → ⊥) → Case text
  whole : {rows : List StopTime} → Front text rows [] → Case text

by_rest : {text : List ℕ} {rows : List StopTime} (rest : List ℕ) → Front text rows rest → (NextRow rows rest → ⊥) → Case text
by_rest [] f none = whole f
by_rest (b ∷ rest) f none = broken f (λ e. let l = ap length e in absurd (omega arith)) none

case_of : (text : List ℕ) → Case text
case_of text =
    ⊎_elim
    (λ h.
    let s = (starts_iff text).0 h in
    let m = longest (suc (length s.0)) s.0 (omega arith) 0 0 in
    by_rest m.rest
    (record { body = s.0; header = s.1; lines = m.lines; in_order = (follow_iff m.rows).0 m.ordered })
    (λ x. m.no_more ((next_words m.rows m.rest).1 x)))
    (λ h. other_header (λ body e. not_both ((starts_iff text).1 (body, e)) h))
    (by_bool (starts_with header_text text))

-- what the verdict tells in each case
passed_good : {text : List ℕ} → Case text → text_verdict text ≡ Passed → GoodText text (rows_of text)
passed_good {text} (other_header w) h = absurd (passed_not_refused h (header_verdict_lem text w))
passed_good (broken f some none) h = absurd (passed_not_refused h (broken_verdict f some none))
passed_good (whole {rows = rows} f) h =
    rw (whole_rows f) (record { whole = f; none_alone = (alone_passed rows f.in_order).0 (sym (whole_verdict f) ∙ h) })

refused_wrong : {text : List ℕ} {n p : ℕ} → Case text → text_verdict text ≡ Refused n p → (n ≡ refusal.wrong_text_row) × WrongText text p
refused_wrong {text} {n} {p} (other_header w) h =
    let e = header_verdict_lem text w in
    let i : p ≡ 0 = cc in
    (cc, rw i (wrong_header w))
refused_wrong {n = n} {p = p} (broken {rows = rows} f some none) h =
    let e = broken_verdict f some none in
    let i : p ≡ suc (length rows) = cc in
    (cc, rw i (wrong_row f some none))
refused_wrong {n = n} {p = p} (whole {rows = rows} f) h =
    let a = (alone_refused rows f.in_order n p).0 (sym (whole_verdict f) ∙ h) in
    (a.2, rw a.3 (alone_row a.0 f a.1 a.4 a.5))

wrong_refused : {text : List ℕ} {p : ℕ} → WrongText text p → text_verdict text ≡ Refused refusal.wrong_text_row p
wrong_refused {text} (wrong_header w) = header_verdict_lem text w
wrong_refused (wrong_row f some none) = broken_verdict f some none
wrong_refused (alone_row {rows = rows} k f l a b) =
    whole_verdict f ∙ (alone_refused rows f.in_order refusal.wrong_text_row (suc k)).1 (k, l, refl, refl, a, b)

-- a text is accepted, and these are its rows, exactly if it is a good text of them
pub good_iff : (text : List ℕ) (rows : List StopTime) → ((text_verdict text ≡ Passed) × (rows_of text ≡ rows)) ↔ GoodText text rows
good_iff text rows = (
  λ h. rw (← h.1) (passed_good (case_of text) h.0),
  λ g. (whole_verdict g.whole ∙ (alone_passed rows g.whole.in_order).1 g.none_alone, whole_rows g.whole),
)

-- a text is refused with a number at a place exactly if the number is 31 and it is wrong there
pub wrong_iff : (text : List ℕ) (n p : ℕ) → (text_verdict text ≡ Refused n p) ↔ ((n ≡ refusal.wrong_text_row) × WrongText text p)
wrong_iff text n p = (refused_wrong (case_of text), λ w. wrong_refused w.1 ∙ ap (λ (m : ℕ). Refused m p) (sym w.0))

-- What the reading of a text's rows leaves, by how it ends: at its first line, at a row, with the text. Assumes nothing.
use Rattle.std.proofs.Common.{◌≡◌, ℕ, suc, ◌+◌, ◌≤◌, true, false, List, length, Some, None, Ok, Err, sym, ap, ◌∙◌, add-one, arith}
use Rattle.refusals.specs.Answers.{Refused}
use Rattle.cuts.specs.Cut.{starts_with, lines_of}
use Rattle.refusals.specs.RefusalNumber as refusal
use Rattle.refusals.specs.declared.Refusal.{Refusal}
use Rattle.refusals.specs.declared.Reason.TheVariants as R
use Rattle.gtfs.specs.StopTimes.{header_text}
use Rattle.gtfs.specs.Feed.{lines_verdict, rows_of, body_of, text_verdict}
use Rattle.gtfs.specs.Conversions.{text_connections}
use Rattle.feeds.specs.declared.Progress.{Progress}
use Rattle.feeds.specs.Progress.{alone_after}
use Rattle.feeds.specs.Reading.{RowsRead}
use Rattle.feeds.proofs.Knowledge.{found_at, alone_known, count_known, places_known}
use Rattle.feeds.proofs.Turns.{Reached, reached_end}

-- a refusal is no count
not_counted : {r : Refusal ℕ} {n : ℕ} → Err r ≡ Ok n → ⊥
not_counted e = let z : ◌≡◌ {A = ℕ} 0 1 = cc in omega arith

module _ (text first area : List ℕ) where
  -- a text that is refused
  wrong_read : (k : ℕ) → text_verdict text ≡ Refused refusal.wrong_text_row k → RowsRead (Err (R.WrongTextRow, k)) area first text
  wrong_read k e =
      record { verdict = sym e; count = λ n d. absurd (not_counted d); stands = λ n d l. absurd (not_counted d) }

  pub header_wrong : starts_with header_text text ≡ false → RowsRead (Err (R.WrongTextRow, 0)) area first text
  unfolding text_verdict
  header_wrong h = wrong_read 0 (rw h)

  module _ (header : starts_with header_text text ≡ true) where
    pub row_wrong : (k : ℕ) → lines_verdict 1 0 0 (lines_of (body_of text)) ≡ Refused refusal.wrong_text_row (suc k)
        → RowsRead (Err (R.WrongTextRow, k + 1)) area first text
    unfolding text_verdict
    row_wrong k e = wrong_read (k + 1) (rw (header, e, add-one k))

    -- a text read to its end
    module _ {p : Progress} {at : ℕ} (h : Reached text first area p at) (past : length text ≤ at) where
      end_told : text_verdict text ≡ found_at (alone_after p)
      unfolding text_verdict
      end_told =
          let e = reached_end h past in
          rw (header, e.0) (sym (alone_known (rows_of text)) ∙ ap (λ (q : Progress). found_at (alone_after q)) (sym e.1))

      -- the first row found alone
      pub alone_wrong : (k : ℕ) → Some k ≡ alone_after p → RowsRead (Err (R.WrongTextRow, k)) area first text
      alone_wrong k found = wrong_read k (end_told ∙ rw (← found))

      pub rows_right : None ≡ alone_after p → RowsRead (Ok p.connections) area first text
      rows_right none =
          let e = reached_end h past in
          let c : p.connections ≡ length (text_connections text) =
          ap (λ (q : Progress). q.connections) e.1 ∙ count_known (rows_of text) in
          record {
            verdict = sym (end_told ∙ rw (← none));
            count = λ n d. let m : n ≡ p.connections = cc in m ∙ c;
            stands = λ n d l. e.2 ∙ places_known (rows_of text) first (let m : n ≡ p.connections = cc in omega arith);
          }

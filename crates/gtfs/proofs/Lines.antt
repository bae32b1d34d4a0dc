-- The first line of a text that a newline ends: what it says of the text's verdict and of its rows. Assumes nothing.
use Rattle.std.proofs.Common.{◌≡◌, ℕ, suc, true, not, ◌&&◌, List, ◌∷◌, is_some}
use Rattle.decimals.specs.Bytes.{newline}
use Rattle.refusals.specs.Answers.{refuse_if, or_else}
use Rattle.cuts.specs.Cut.{has, before, after, lines_of}
use Rattle.cuts.proofs.Cut.{lines_cut, lines_some}
use Rattle.refusals.specs.RefusalNumber as refusal
use Rattle.gtfs.specs.StopTimes.{row_of, row_in}
use Rattle.gtfs.specs.Feed.{may_follow, lines_verdict, rows_in}

module _ (t : List ℕ) (ended : has newline t ≡ true) where
  -- 31 where it is no row that may follow, else as the other lines say
  pub first_judged : (k trips sequence : ℕ)
      → lines_verdict k trips sequence (lines_of t)
      ≡ or_else
      (refuse_if
      (not (is_some (row_of (before newline t)) && may_follow trips sequence (row_in (row_of (before newline t)))))
      refusal.wrong_text_row
      k)
      (lines_verdict (suc k) (suc (row_in (row_of (before newline t))).trip) (row_in (row_of (before newline t))).sequence
      (lines_of (after newline t)))
  unfolding lines_verdict
  first_judged k trips sequence = rw (lines_cut t ended, (lines_some (after newline t)).2)

  -- it is the first row
  pub first_row : rows_in (lines_of t) ≡ row_in (row_of (before newline t)) ∷ rows_in (lines_of (after newline t))
  unfolding rows_in
  first_row = rw (lines_cut t ended, (lines_some (after newline t)).2)

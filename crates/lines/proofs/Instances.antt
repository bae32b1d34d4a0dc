-- Lines written, byte by byte. Assumes nothing.
use Rattle.std.proofs.Common.{◌≡◌, [], ◌∷◌, map, refl}
use lib.IntN.{pos, negsuc}
use Rattle.decimals.specs.Decimal.{last_digits, decimal_of}
use Rattle.arrivals.specs.Arrivals.{journey_text, arrives_line}
use Rattle.lines.specs.Lines.{counts_line, posted_line, withdrawn_line, refusal_line, margin_line, why_line}
use Rattle.lines.specs.Lines.{counts, arrives, posted, withdrawn, refusal, margin, why, text_of}

-- "stops 3 rides 5", "arrives 640 by 0 1", "arrives 700 by", "posted 7", "withdrawn 7", "no 30 at 0", "margin -1",
-- "margin 0", "why 1 delay 10 notice 7"
pub lines_written : map text_of
    (counts 3 5 ∷ arrives 640 (0 ∷ 1 ∷ []) ∷ arrives 700 [] ∷ posted 7 ∷ withdrawn 7 ∷ refusal 30 0 ∷
    margin (negsuc 0) ∷ margin (pos 0) ∷ why 1 10 7 ∷ [])
    ≡ (115 ∷ 116 ∷ 111 ∷ 112 ∷ 115 ∷ 32 ∷ 51 ∷ 32 ∷ 114 ∷ 105 ∷ 100 ∷ 101 ∷ 115 ∷ 32 ∷ 53 ∷ 10 ∷ []) ∷
    (97 ∷ 114 ∷ 114 ∷ 105 ∷ 118 ∷ 101 ∷ 115 ∷ 32 ∷ 54 ∷ 52 ∷ 48 ∷ 32 ∷ 98 ∷ 121 ∷ 32 ∷ 48 ∷ 32 ∷ 49 ∷ 10 ∷ []) ∷
    (97 ∷ 114 ∷ 114 ∷ 105 ∷ 118 ∷ 101 ∷ 115 ∷ 32 ∷ 55 ∷ 48 ∷ 48 ∷ 32 ∷ 98 ∷ 121 ∷ 10 ∷ []) ∷
    (112 ∷ 111 ∷ 115 ∷ 116 ∷ 101 ∷ 100 ∷ 32 ∷ 55 ∷ 10 ∷ []) ∷
    (119 ∷ 105 ∷ 116 ∷ 104 ∷ 100 ∷ 114 ∷ 97 ∷ 119 ∷ 110 ∷ 32 ∷ 55 ∷ 10 ∷ []) ∷
    (110 ∷ 111 ∷ 32 ∷ 51 ∷ 48 ∷ 32 ∷ 97 ∷ 116 ∷ 32 ∷ 48 ∷ 10 ∷ []) ∷
    (109 ∷ 97 ∷ 114 ∷ 103 ∷ 105 ∷ 110 ∷ 32 ∷ 45 ∷ 49 ∷ 10 ∷ []) ∷
    (109 ∷ 97 ∷ 114 ∷ 103 ∷ 105 ∷ 110 ∷ 32 ∷ 48 ∷ 10 ∷ []) ∷
    (119 ∷ 104 ∷ 121 ∷ 32 ∷ 49 ∷ 32 ∷ 100 ∷ 101 ∷ 108 ∷ 97 ∷ 121 ∷ 32 ∷
    49 ∷ 48 ∷ 32 ∷ 110 ∷ 111 ∷ 116 ∷ 105 ∷ 99 ∷ 101 ∷ 32 ∷ 55 ∷ 10 ∷ []) ∷
    []
unfolding text_of counts_line arrives_line posted_line withdrawn_line refusal_line margin_line why_line journey_text decimal_of last_digits
lines_written = refl

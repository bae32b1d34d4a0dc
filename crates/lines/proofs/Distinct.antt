-- Different answers have different lines: an answer can be told from its line, by the line's first letter, its sign
-- and the numbers in it. Assumes nothing.
use Rattle.std.proofs.Common.{◌≡◌, ℕ, suc, ◌+◌, ◌-◌, ◌*◌, ◌≤◌, Bool, true, false, cond, eqb, leb, List, [], ◌∷◌, ◌++◌, length, get_or, drop, sym, refl, ap, ◌∙◌, append_assoc, arith, ne_eqb, leb-true}
use lib.IntN.{ℤ, pos, negsuc, nat_abs}
use Rattle.decimals.specs.Bytes.{digit_zero, digit_nine}
use Rattle.decimals.specs.Decimal.{is_digit, all_digits, value_after, value_of, decimal_of}
use Rattle.labels.specs.Labels.{line_end, labelled, pair_line}
use Rattle.arrivals.specs.Arrivals.{by_label, journey_text, arrives_line}
use Rattle.lines.specs.Lines.{connections_label, place_label, delay_label, notice_label}
use Rattle.lines.specs.Lines.{counts_line, posted_line, withdrawn_line, refusal_line, margin_line, why_line}
use Rattle.lines.specs.Lines.{Line, counts, arrives, posted, withdrawn, refusal, margin, why, text_of}
use Rattle.decimals.proofs.Digits.{digits_only, digits_some, value_is}
use Rattle.timetable.proofs.Tests.{and_left, and_right}

-- the number that ends here, where there is one
abbrev ending : Bool → ℕ → List ℕ → List ℕ
ending true v ns = v ∷ ns
ending false v ns = ns

-- the numbers in a text: the values of its runs of digits. Inside a run, v is the value so far
unfoldable numbers_in : Bool → ℕ → List ℕ → List ℕ
numbers_in inside v [] = ending inside v []
numbers_in inside v (b ∷ bs) =
    cond (is_digit b) (numbers_in true (10 * v + (b - digit_zero)) bs) (ending inside v (numbers_in false 0 bs))

-- a run of digits up to another byte
run_ends : (v : ℕ) (ds : List ℕ) (s : ℕ) (r : List ℕ) → all_digits ds ≡ true → is_digit s ≡ false
    → numbers_in true v (ds ++ (s ∷ r)) ≡ value_after v ds ∷ numbers_in false 0 r
unfolding numbers_in all_digits value_after
run_ends v [] s r h g = rw g
run_ends v (d ∷ ds) s r h g =
    rw (and_left (is_digit d) (all_digits ds) h) (run_ends (10 * v + (d - digit_zero)) ds s r (and_right (is_digit d) (all_digits ds) h) g)

run_whole : (ds : List ℕ) (s : ℕ) (r : List ℕ) → 1 ≤ length ds → all_digits ds ≡ true → is_digit s ≡ false
    → numbers_in false 0 (ds ++ (s ∷ r)) ≡ value_of ds ∷ numbers_in false 0 r
unfolding numbers_in all_digits value_after
run_whole [] s r l h g = absurd (omega arith)
run_whole (d ∷ ds) s r l h g =
    rw (and_left (is_digit d) (all_digits ds) h) (run_ends (10 * 0 + (d - digit_zero)) ds s r (and_right (is_digit d) (all_digits ds) h) g)

-- a number in decimal up to another byte
number_in : (n s : ℕ) (r : List ℕ) → is_digit s ≡ false → numbers_in false 0 (decimal_of n ++ (s ∷ r)) ≡ n ∷ numbers_in false 0 r
number_in n s r g = run_whole (decimal_of n) s r (digits_some n) (digits_only n) g ∙ rw (value_is n)

-- the same with the text after it in two parts
followed : (n : ℕ) (s t : List ℕ) {ns : List ℕ} → numbers_in false 0 (decimal_of n ++ (s ++ t)) ≡ ns
    → numbers_in false 0 (decimal_of n ++ s ++ t) ≡ ns
followed n s t h = ap (numbers_in false 0) (append_assoc (decimal_of n) s t) ∙ h

-- the connections of a journey
journey_in_lem : (cs : List ℕ) → numbers_in false 0 (journey_text cs ++ line_end) ≡ cs
unfolding journey_text numbers_in
journey_in_lem [] = refl
journey_in_lem (c ∷ []) = followed c [] line_end (number_in c 10 [] refl)
journey_in_lem (c ∷ b ∷ cs) =
    followed c (journey_text (b ∷ cs)) line_end (number_in c 32 ((decimal_of b ++ journey_text cs) ++ line_end) refl)
    ∙ ap (λ (ns : List ℕ). c ∷ ns) (journey_in_lem (b ∷ cs))

digit_first : (ds r : List ℕ) → 1 ≤ length ds → all_digits ds ≡ true → digit_zero ≤ get_or (ds ++ r) 0 0
unfolding all_digits
digit_first [] r l h = absurd (omega arith)
digit_first (d ∷ ds) r l h = leb-true digit_zero d (and_left (leb digit_zero d) (leb d digit_nine) (and_left (is_digit d) (all_digits ds) h))

-- a number does not start with a minus sign
no_minus : (n : ℕ) (r : List ℕ) → eqb (get_or (decimal_of n ++ r) 0 0) 45 ≡ false
no_minus n r =
    let d = digit_first (decimal_of n) r (digits_some n) (digits_only n) in
    ne_eqb _ _ (λ (e : get_or (decimal_of n ++ r) 0 0 ≡ 45). omega (arith, d))

abbrev signed : Bool → ℕ → ℤ
signed true n = negsuc (n - 1)
signed false n = pos n

-- the answer of a first letter, a byte where the sign may be, and numbers. A withdrawal and a why have one letter: the first has one
-- number, the second three
abbrev answer_of : ℕ → ℕ → List ℕ → Line
answer_of letter sign ns =
    cond (eqb letter 115) (counts (get_or ns 0 0) (get_or ns 1 0))
    (cond (eqb letter 97) (arrives (get_or ns 0 0) (drop 1 ns))
    (cond (eqb letter 112) (posted (get_or ns 0 0))
    (cond (eqb letter 119) (cond (eqb (length ns) 1) (withdrawn (get_or ns 0 0)) (why (get_or ns 0 0) (get_or ns 1 0) (get_or ns 2 0)))
    (cond (eqb letter 110) (refusal (get_or ns 0 0) (get_or ns 1 0))
    (margin (signed (eqb sign 45) (get_or ns 0 0)))))))

-- the answer of a line
abbrev line_of : List ℕ → Line
line_of text = answer_of (get_or text 0 0) (get_or text 7 0) (numbers_in false 0 text)

-- the numbers of each line
counts_in : (s c : ℕ) → numbers_in false 0 (counts_line s c) ≡ s ∷ c ∷ []
unfolding counts_line numbers_in
counts_in s c =
    followed s (labelled connections_label c) line_end (number_in s 32 (drop 1 (labelled connections_label c) ++ line_end) refl)
    ∙ ap (λ (ns : List ℕ). s ∷ ns) (number_in c 10 [] refl)

arrives_in : (t : ℕ) (cs : List ℕ) → numbers_in false 0 (arrives_line t cs) ≡ t ∷ cs
unfolding arrives_line numbers_in
arrives_in t cs =
    ap (λ (l : List ℕ). numbers_in false 0 (l ++ line_end)) (append_assoc (decimal_of t) by_label (journey_text cs))
    ∙ followed t (by_label ++ journey_text cs) line_end (number_in t 32 (drop 1 by_label ++ journey_text cs ++ line_end) refl)
    ∙ ap (λ (ns : List ℕ). t ∷ ns) (journey_in_lem cs)

posted_in : (n : ℕ) → numbers_in false 0 (posted_line n) ≡ n ∷ []
unfolding posted_line numbers_in
posted_in n = number_in n 10 [] refl

withdrawn_in : (n : ℕ) → numbers_in false 0 (withdrawn_line n) ≡ n ∷ []
unfolding withdrawn_line numbers_in
withdrawn_in n = number_in n 10 [] refl

refusal_in : (n p : ℕ) → numbers_in false 0 (refusal_line n p) ≡ n ∷ p ∷ []
unfolding refusal_line numbers_in
refusal_in n p =
    followed n (labelled place_label p) line_end (number_in n 32 (drop 1 (labelled place_label p) ++ line_end) refl)
    ∙ ap (λ (ns : List ℕ). n ∷ ns) (number_in p 10 [] refl)

margin_in_lem : (z : ℤ) → numbers_in false 0 (margin_line z) ≡ nat_abs z ∷ []
unfolding margin_line numbers_in
margin_in_lem (pos n) = number_in n 10 [] refl
margin_in_lem (negsuc n) = number_in (suc n) 10 [] refl

why_in_lem : (c d n : ℕ) → numbers_in false 0 (why_line c d n) ≡ c ∷ d ∷ n ∷ []
unfolding why_line numbers_in
why_in_lem c d n =
    number_in c 32 (drop 1 (pair_line delay_label d notice_label n)) refl
    ∙ ap (λ (ns : List ℕ). c ∷ ns)
    (followed d (labelled notice_label n) line_end (number_in d 32 (drop 1 (labelled notice_label n) ++ line_end) refl)
    ∙ ap (λ (ns : List ℕ). d ∷ ns) (number_in n 10 [] refl))

-- an answer can be told from its line
line_told : (x : Line) → line_of (text_of x) ≡ x
unfolding text_of counts_line arrives_line posted_line withdrawn_line refusal_line margin_line why_line
line_told (counts s c) = ap (answer_of 115 0) (counts_in s c)
line_told (arrives t cs) = ap (answer_of 97 0) (arrives_in t cs)
line_told (posted n) = ap (answer_of 112 0) (posted_in n)
line_told (withdrawn n) = ap (answer_of 119 0) (withdrawn_in n)
line_told (refusal n p) = ap (answer_of 110 0) (refusal_in n p)
line_told (margin (pos n)) =
    ap (answer_of 109 (get_or (decimal_of n ++ line_end) 0 0)) (margin_in_lem (pos n)) ∙ ap (λ (b : Bool). margin (signed b n)) (no_minus n line_end)
line_told (margin (negsuc n)) = ap (answer_of 109 45) (margin_in_lem (negsuc n)) ∙ ap (λ (m : ℕ). margin (negsuc m)) (omega arith)
line_told (why c d n) = ap (answer_of 119 0) (why_in_lem c d n)

-- different answers have different lines
pub text_injective : (x y : Line) → text_of x ≡ text_of y → x ≡ y
text_injective x y e = sym (line_told x) ∙ ap line_of e ∙ line_told y

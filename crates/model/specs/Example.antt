-- Example J of document 01: its timetable file. Assumes nothing.
use Rattle.std.specs.Prelude.{List, [], ◌∷◌, ℕ, ◌%◌, ◌/◌}

-- numbers as bytes, low byte first
unfoldable pub in_bytes : List ℕ → List ℕ
in_bytes [] = []
in_bytes (n ∷ ns) = n % 256 ∷ n / 256 ∷ in_bytes ns

-- a timetable file of these numbers after its three letters
abbrev pub file_of : List ℕ → List ℕ
file_of ns = 84 ∷ 84 ∷ 71 ∷ in_bytes ns

unfoldable pub example_j : List ℕ
unfolding in_bytes
example_j =
    file_of
    (1 ∷ 3 ∷ 5 ∷
    4 ∷ 5 ∷ 3 ∷
    0 ∷ 0 ∷ 1 ∷ 600 ∷ 620 ∷
    0 ∷ 1 ∷ 2 ∷ 625 ∷ 640 ∷
    1 ∷ 1 ∷ 2 ∷ 622 ∷ 650 ∷
    1 ∷ 2 ∷ 0 ∷ 655 ∷ 690 ∷
    2 ∷ 1 ∷ 2 ∷ 630 ∷ 642 ∷
    [])

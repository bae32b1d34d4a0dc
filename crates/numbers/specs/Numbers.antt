-- Numbers of 16 bits in a list of bytes, low byte first, and an area of bytes as an area of such numbers.
-- An odd last byte of an area is no part of a number. Assumes nothing.
use Rattle.std.specs.Prelude.{List, [], ◌∷◌, ℕ, ◌+◌, ◌*◌, ◌/◌, ◌%◌, get_or}

-- how many values a byte has
abbrev pub byte_size : ℕ
byte_size = 256

-- the number whose low byte is at place p
abbrev pub number_at : List ℕ → ℕ → ℕ
number_at bytes p = get_or bytes p 0 + byte_size * get_or bytes (p + 1) 0

-- the numbers of an area of bytes
unfoldable pub numbers_of : List ℕ → List ℕ
numbers_of [] = []
numbers_of (low ∷ []) = []
numbers_of (low ∷ high ∷ bytes) = (low + byte_size * high) ∷ numbers_of bytes

-- numbers as bytes
unfoldable pub bytes_of : List ℕ → List ℕ
bytes_of [] = []
bytes_of (n ∷ ns) = n % byte_size ∷ n / byte_size ∷ bytes_of ns

-- numbers written over the front of an area of numbers, as many as it has room for
unfoldable pub over : List ℕ → List ℕ → List ℕ
over [] area = area
over (n ∷ ns) [] = []
over (n ∷ ns) (x ∷ area) = n ∷ over ns area

-- numbers written over the front of an area of bytes, as many as it has room for
unfoldable pub over_bytes : List ℕ → List ℕ → List ℕ
over_bytes [] bytes = bytes
over_bytes (n ∷ ns) [] = []
over_bytes (n ∷ ns) (x ∷ []) = x ∷ []
over_bytes (n ∷ ns) (x ∷ y ∷ bytes) = n % byte_size ∷ n / byte_size ∷ over_bytes ns bytes

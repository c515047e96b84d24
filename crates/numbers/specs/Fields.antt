-- Records of numbers in bytes, big-endian: definitions only. A layout is a list of widths.
use Rattle.std.specs.Prelude.{ℕ, ◌+◌, ◌*◌, ◌/◌, ◌%◌, ◌<◌, ◌≡◌, List, [], ◌∷◌, ◌++◌, get_or}

pub data Width : Type 0 where
  bits8 bits16 bits32 bits64 : Width

-- how many bytes
abbrev pub bytes : Width → ℕ
bytes bits8 = 1
bytes bits16 = 2
bytes bits32 = 4
bytes bits64 = 8

-- the first number that is too large
abbrev pub bound : Width → ℕ
bound bits8 = 256
bound bits16 = 65536
bound bits32 = 4294967296
bound bits64 = 18446744073709551616

-- a number in four bytes, most significant first, and the number in four bytes at an offset
abbrev pub four : ℕ → List ℕ
four v = v / 16777216 % 256 ∷ v / 65536 % 256 ∷ v / 256 % 256 ∷ v % 256 ∷ []

abbrev pub four_at : ℕ → List ℕ → ℕ
four_at o s = get_or s o 0 * 16777216 + get_or s (o + 1) 0 * 65536 + get_or s (o + 2) 0 * 256 + get_or s (o + 3) 0

-- a number in as many bytes as its width has, most significant first; 64 bits are the upper 32, then the lower
abbrev pub big_endian : Width → ℕ → List ℕ
big_endian bits8 v = v ∷ []
big_endian bits16 v = v / 256 % 256 ∷ v % 256 ∷ []
big_endian bits32 v = four v
big_endian bits64 v = four (v / 4294967296) ++ four (v % 4294967296)

-- the number at an offset
abbrev pub number_at : Width → ℕ → List ℕ → ℕ
number_at bits8 o s = get_or s o 0
number_at bits16 o s = get_or s o 0 * 256 + get_or s (o + 1) 0
number_at bits32 o s = four_at o s
number_at bits64 o s = four_at o s * 4294967296 + four_at (o + 4) s

-- the number of bytes of a whole layout
abbrev pub size : List Width → ℕ
size [] = 0
size (w ∷ ws) = bytes w + size ws

-- values laid out, one for each width
abbrev pub laid_out : List Width → List ℕ → List ℕ
laid_out [] vs = []
laid_out (w ∷ ws) [] = []
laid_out (w ∷ ws) (v ∷ vs) = big_endian w v ++ laid_out ws vs

-- the values at an offset
abbrev pub values_at : List Width → ℕ → List ℕ → List ℕ
values_at [] o s = []
values_at (w ∷ ws) o s = number_at w o s ∷ values_at ws (o + bytes w) s

-- each value fits its width, and one that has no width is 0
abbrev pub Fit : List Width → List ℕ → Type 0
Fit [] [] = Unit {0}
Fit [] (v ∷ vs) = (v ≡ 0) × Fit [] vs
Fit (w ∷ ws) [] = ⊥
Fit (w ∷ ws) (v ∷ vs) = (v < bound w) × Fit ws vs

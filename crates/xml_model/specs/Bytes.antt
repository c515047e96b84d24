-- Bytes of a text, their classes, runs of a class, and where the scan is stuck. Order 1 says "not well formed"; this grammar and
-- the next file's are what is well formed, complete: no other rule of XML 1.0 is judged.
--
--     text     = S* element S* END
--     element  = '<' Name (S+ Attr)* S* '/>'  |  '<' Name (S+ Attr)* S* '>' ( C | element )* '</' Name S* '>'
--     Attr     = Name S* '=' S* ( '"' (C except ")* '"' | "'" (C except ')* "'" )
--     Name     = N0 N*          N0 = A-Z a-z _ : and bytes from 128 on          N = N0, 0-9, - and .
--     S        = space, tab, line feed, carriage return
--     C        = S and bytes from 32 on, except < and &
use Rattle.std.specs.Prelude.{ℕ, suc, ◌+◌, ◌-◌, Bool, true, false, cond, ◌&&◌, ◌||◌, not, List, [], ◌∷◌, length, get_or, take, drop, ltb, leb, eqb}
use Prim.Native.String as N
use Prim.Native.Char.{code}
use Rattle.model.specs.Book.{between}

-- a quoted text as its bytes, for the names and constants of the definitions: ASCII only
abbrev pub bytes : N.String → List ℕ
bytes N.[] = []
bytes (N.◌∷◌ c s) = code c ∷ bytes s

-- the byte at i; 256 at the end of the text, which no rule takes for a byte
unfoldable pub byte_at : List ℕ → ℕ → ℕ
byte_at s i = cond (ltb i (length s)) (get_or s i 0) 256

-- the bytes from a to b
abbrev pub part : List ℕ → ℕ → ℕ → List ℕ
part s a b = take (b - a) (drop a s)

-- the same bytes in the same order
unfoldable pub same : List ℕ → List ℕ → Bool
same [] [] = true
same [] (y ∷ ys) = false
same (x ∷ xs) [] = false
same (x ∷ xs) (y ∷ ys) = let r = same xs ys in cond (eqb x y) r false

-- ## Classes

abbrev pub is_space : ℕ → Bool
is_space c = eqb c 32 || eqb c 9 || eqb c 10 || eqb c 13

abbrev pub is_name_start : ℕ → Bool
is_name_start c = between 65 90 c || between 97 122 c || eqb c 95 || eqb c 58 || between 128 255 c

abbrev pub is_name : ℕ → Bool
is_name c = is_name_start c || between 48 57 c || eqb c 45 || eqb c 46

abbrev pub is_text : ℕ → Bool
is_text c = (leb 32 c || is_space c) && leb c 255 && not (eqb c 60) && not (eqb c 38)

abbrev pub is_digit : ℕ → Bool
is_digit c = between 48 57 c

abbrev pub spaces : ℕ
spaces = 0

abbrev pub names : ℕ
names = 1

abbrev pub texts : ℕ
texts = 2

abbrev pub digits : ℕ
digits = 3

-- whether a byte is of that class; 34 and 39, the quotes, stand for a value between two of them
unfoldable pub in_class : ℕ → ℕ → Bool
in_class k c =
    cond (eqb k spaces) (is_space c)
    (cond (eqb k names) (is_name c)
    (cond (eqb k texts) (is_text c)
    (cond (eqb k digits) (is_digit c)
    (is_text c && not (eqb c k)))))

-- how many bytes at the front are of a class
unfoldable pub span : (ℕ → Bool) → List ℕ → ℕ
span p [] = 0
span p (x ∷ xs) = let n = span p xs in cond (p x) (suc n) 0

-- the end of the run of bytes of a class that starts at i
unfoldable pub run_end : ℕ → List ℕ → ℕ → ℕ
run_end k s i = i + span (in_class k) (drop i s)

-- only white space stands from a to b
unfoldable pub bare : List ℕ → ℕ → ℕ → Bool
bare s a b = leb b (run_end spaces s a)

-- ## Where the scan is stuck

-- "any `<!`, `<?` or `&` (whatever follows)" at i
unfoldable pub is_mark : List ℕ → ℕ → Bool
is_mark s i =
    eqb (byte_at s i) 38
    || (eqb (byte_at s i) 60 && (eqb (byte_at s (i + 1)) 33 || eqb (byte_at s (i + 1)) 63))

-- the answer where no rule of the grammar allows the byte at i, or the end of the text there: "40 not well formed"; a mark "gets 41"
unfoldable pub stuck : List ℕ → ℕ → ℕ
stuck s i = cond (is_mark s i) 41 40

-- how far the text is looked at to tell: a `<` is told from a mark by the byte behind it; at the end, that it ends
unfoldable pub looked : List ℕ → ℕ → ℕ
looked s i = cond (ltb i (length s)) (cond (eqb (byte_at s i) 60) (i + 2) (i + 1)) (length s + 1)

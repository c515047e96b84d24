-- Laws of numbers in bytes and of layouts: what is laid out reads back, and what was read is laid out as the same bytes.
-- Each law is proved once, for any width and for any layout.
use Prim.Native.Nat.{ℕ, zero, suc, ◌+◌, ◌*◌, ◌/◌, ◌%◌, ◌<◌, ◌≤◌}
use mathlib.Core.Path.{◌≡◌, refl, sym, ap, ap₂, ◌∙◌}
use mathlib.Core.List.{List, [], ◌∷◌, ◌++◌, append_assoc}
use mathlib.Core.Bool.{Bool, true, false, ◌&&◌, false≢true}
use native.Mathlib.Omega.{arith}
use native.Mathlib.Nat.{add_assoc, add-zero, zero-add, div-div-eq-div-mul, div-add-mod', mod-eq_of_lt}
use lib.ListN.{length, get_or, take, drop, replicate, length-append, length-drop}
use lib.Seq.{get_or-drop, drop_at, take-add, drop-drop}
use lib.Dec.{leb}
use borrow.Author.Tests.{leb-true}
use Rattle.numbers.proofs.Tests.{and_left, and_right}
use Rattle.numbers.specs.Fields.{Width, bits8, bits16, bits32, bits64, bytes, bound, four, four_at, big_endian, number_at, size, laid_out}
use Rattle.numbers.specs.Fields.{values_at, Fit}

-- ## One number

-- four bytes at an offset are the first four of what follows the offset
four-drop : (o k : ℕ) (s : List ℕ) → four_at k (drop o s) ≡ four_at (o + k) s
four-drop o k s =
    rw (
      add_assoc o k 1,
      add_assoc o k 2,
      add_assoc o k 3,
      get_or-drop o s k 0,
      get_or-drop o s (k + 1) 0,
      get_or-drop o s (k + 2) 0,
      get_or-drop o s (k + 3) 0,
    )

-- and so for a number of any width
number-drop : (w : Width) (o k : ℕ) (s : List ℕ) → number_at w k (drop o s) ≡ number_at w (o + k) s
number-drop bits8 o k s = get_or-drop o s k 0
number-drop bits16 o k s = rw (add_assoc o k 1, get_or-drop o s k 0, get_or-drop o s (k + 1) 0)
number-drop bits32 o k s = four-drop o k s
number-drop bits64 o k s =
    ap₂ (λ (a b : ℕ). a * 4294967296 + b) (four-drop o k s)
    (four-drop o (k + 4) s ∙ ap (λ (n : ℕ). four_at n s) (sym (add_assoc o k 4)))

number-from : (w : Width) (o : ℕ) (s : List ℕ) → number_at w 0 (drop o s) ≡ number_at w o s
number-from w o s = number-drop w o 0 s ∙ ap (λ (n : ℕ). number_at w n s) (add-zero o)

-- four digits to the base 256, put together
digits : (v w x y r₀ r₁ r₂ : ℕ) → w * 256 + r₀ ≡ v → x * 256 + r₁ ≡ w → y * 256 + r₂ ≡ x
    → y * 16777216 + r₂ * 65536 + r₁ * 256 + r₀ ≡ v
digits v w x y r₀ r₁ r₂ p q r = omega arith

whole32 : (v : ℕ) → v < 4294967296 → v / 16777216 % 256 * 16777216 + v / 65536 % 256 * 65536 + v / 256 % 256 * 256 + v % 256 ≡ v
whole32 v h =
    let t : v / 16777216 < 256 = omega arith in
    let p : v / 65536 * 256 + v / 256 % 256 ≡ v / 256 = rw (← div-div-eq-div-mul v 256 256) (div-add-mod' (v / 256) 256) in
    let q : v / 16777216 * 256 + v / 65536 % 256 ≡ v / 65536 = rw (← div-div-eq-div-mul v 65536 256) (div-add-mod' (v / 65536) 256) in
    rw (mod-eq_of_lt t) (digits v (v / 256) (v / 65536) (v / 16777216) (v % 256) (v / 256 % 256) (v / 65536 % 256) (div-add-mod' v 256) p q)

-- a number that is laid out reads back
number-first : (w : Width) (v : ℕ) (rest : List ℕ) → v < bound w → number_at w 0 (big_endian w v ++ rest) ≡ v
number-first bits8 v rest h = refl
number-first bits16 v rest h = omega arith
number-first bits32 v rest h = whole32 v h
number-first bits64 v rest h =
    let hi : v / 4294967296 < 4294967296 = omega arith in
    let lo : v % 4294967296 < 4294967296 = omega arith in
    ap₂ (λ (a b : ℕ). a * 4294967296 + b) (whole32 (v / 4294967296) hi) (whole32 (v % 4294967296) lo) ∙ div-add-mod' v 4294967296

pub number-back : (w : Width) (o v : ℕ) (pre rest : List ℕ) → length pre ≡ o → v < bound w
    → number_at w o (pre ++ big_endian w v ++ rest) ≡ v
number-back w o v pre rest e h =
    sym (number-from w o (pre ++ big_endian w v ++ rest))
    ∙ ap (λ (s : List ℕ). number_at w 0 (drop o s)) (append_assoc pre (big_endian w v) rest)
    ∙ ap (number_at w 0) (drop_at pre (big_endian w v ++ rest) o e)
    ∙ number-first w v rest h

-- a number that was read is laid out as the bytes it was read from
four-first : (s : List ℕ) → ((k : ℕ) → get_or s k 0 < 256) → 4 ≤ length s → four (four_at 0 s) ≡ take 4 s
four-first [] b h = absurd (omega arith)
four-first (x ∷ []) b h = absurd (omega arith)
four-first (x ∷ y ∷ []) b h = absurd (omega arith)
four-first (x ∷ y ∷ z ∷ []) b h = absurd (omega arith)
four-first (x ∷ y ∷ z ∷ u ∷ s) b h =
    let hx : x < 256 = b 0 in
    let hy : y < 256 = b 1 in
    let hz : z < 256 = b 2 in
    let hu : u < 256 = b 3 in
    let v = x * 16777216 + y * 65536 + z * 256 + u in
    let p : v / 16777216 % 256 ≡ x = omega arith in
    let q : v / 65536 % 256 ≡ y = omega arith in
    let r : v / 256 % 256 ≡ z = omega arith in
    let t : v % 256 ≡ u = omega arith in
    λ i. p i ∷ q i ∷ r i ∷ t i ∷ []

first-bytes : (w : Width) (s : List ℕ) → ((k : ℕ) → get_or s k 0 < 256) → bytes w ≤ length s
    → big_endian w (number_at w 0 s) ≡ take (bytes w) s
first-bytes bits8 [] b h = absurd (omega arith)
first-bytes bits8 (x ∷ s) b h = refl
first-bytes bits16 [] b h = absurd (omega arith)
first-bytes bits16 (x ∷ []) b h = absurd (omega arith)
first-bytes bits16 (x ∷ y ∷ s) b h =
    let hx : x < 256 = b 0 in
    let hy : y < 256 = b 1 in
    let p : (x * 256 + y) / 256 % 256 ≡ x = omega arith in
    let q : (x * 256 + y) % 256 ≡ y = omega arith in
    λ i. p i ∷ q i ∷ []
first-bytes bits32 s b h = four-first s b h
first-bytes bits64 s b h =
    let a = four_at 0 s in
    let z = four_at 4 s in
    let hz : z < 4294967296 = omega (arith, b 4, b 5, b 6, b 7) in
    let p : (a * 4294967296 + z) / 4294967296 ≡ a = omega arith in
    let q : (a * 4294967296 + z) % 4294967296 ≡ z = omega arith in
    let room : 4 ≤ length (drop 4 s) = rw (length-drop) (omega arith) in
    let part : (k : ℕ) → get_or (drop 4 s) k 0 < 256 = λ k. rw (get_or-drop) (b (4 + k)) in
    ap₂ (λ (x y : ℕ). four x ++ four y) p (q ∙ sym (number-from bits32 4 s))
    ∙ ap₂ ◌++◌ (four-first s b (omega arith)) (four-first (drop 4 s) part room)
    ∙ sym (take-add 4 4 s)

-- bytes followed by bytes are bytes
pub append-bytes : (s t : List ℕ) → ((k : ℕ) → get_or s k 0 < 256) → ((k : ℕ) → get_or t k 0 < 256) → (k : ℕ) → get_or (s ++ t) k 0 < 256
append-bytes [] t hs ht k = ht k
append-bytes (x ∷ s) t hs ht zero = hs 0
append-bytes (x ∷ s) t hs ht (suc k) = append-bytes s t (λ j. hs (suc j)) ht k

four_bytes : (v k : ℕ) → get_or (four v) k 0 < 256
four_bytes v zero = omega arith
four_bytes v (suc zero) = omega arith
four_bytes v (suc (suc zero)) = omega arith
four_bytes v (suc (suc (suc zero))) = omega arith
four_bytes v (suc (suc (suc (suc k)))) = omega arith

-- a number that fits its width is laid out in bytes
number-bytes : (w : Width) (v : ℕ) → v < bound w → (k : ℕ) → get_or (big_endian w v) k 0 < 256
number-bytes bits8 v h zero = h
number-bytes bits8 v h (suc k) = omega arith
number-bytes bits16 v h zero = omega arith
number-bytes bits16 v h (suc zero) = omega arith
number-bytes bits16 v h (suc (suc k)) = omega arith
number-bytes bits32 v h k = four_bytes v k
number-bytes bits64 v h k =
    append-bytes (four (v / 4294967296)) (four (v % 4294967296)) (four_bytes (v / 4294967296)) (four_bytes (v % 4294967296)) k

-- what follows an offset is bytes too
pub drop-bytes : (o : ℕ) (s : List ℕ) → ((k : ℕ) → get_or s k 0 < 256) → (k : ℕ) → get_or (drop o s) k 0 < 256
drop-bytes o s b k = rw (get_or-drop) (b (o + k))

pub bytes_back : (w : Width) (o : ℕ) (s : List ℕ) → ((k : ℕ) → get_or s k 0 < 256) → o + bytes w ≤ length s
    → big_endian w (number_at w o s) ≡ take (bytes w) (drop o s)
bytes_back w o s b h =
    let room : bytes w ≤ length (drop o s) = rw (length-drop) (omega arith) in
    ap (big_endian w) (sym (number-from w o s)) ∙ first-bytes w (drop o s) (drop-bytes o s b) room

four-fits : (o : ℕ) (s : List ℕ) → ((k : ℕ) → get_or s k 0 < 256) → four_at o s < 4294967296
four-fits o s b = omega (arith, b o, b (o + 1), b (o + 2), b (o + 3))

-- a number that was read fits its width
pub number_fits : (w : Width) (o : ℕ) (s : List ℕ) → ((k : ℕ) → get_or s k 0 < 256) → number_at w o s < bound w
number_fits bits8 o s b = b o
number_fits bits16 o s b = omega (arith, b o, b (o + 1))
number_fits bits32 o s b = four-fits o s b
number_fits bits64 o s b = let p = four-fits o s b in let q = four-fits (o + 4) s b in omega (arith, p, q)

length-number : (w : Width) (v : ℕ) → length (big_endian w v) ≡ bytes w
length-number bits8 v = refl
length-number bits16 v = refl
length-number bits32 v = refl
length-number bits64 v = refl

-- ## A layout

values-drop : (ws : List Width) (o k : ℕ) (s : List ℕ) → values_at ws k (drop o s) ≡ values_at ws (o + k) s
values-drop [] o k s = refl
values-drop (w ∷ ws) o k s = λ i. number-drop w o k s i ∷ (values-drop ws o (k + bytes w) s ∙ ap (λ (n : ℕ). values_at ws n s)
    (sym (add_assoc o k (bytes w)))) i

-- the values at an offset are the first values of what follows the offset
pub values-from : (ws : List Width) (o : ℕ) (s : List ℕ) → values_at ws 0 (drop o s) ≡ values_at ws o s
values-from ws o s = values-drop ws o 0 s ∙ ap (λ (n : ℕ). values_at ws n s) (add-zero o)

-- the number of bytes of a layout does not depend on the values, if there are enough
pub length-laid : (ws : List Width) (vs : List ℕ) → length ws ≤ length vs → length (laid_out ws vs) ≡ size ws
length-laid [] vs e = refl
length-laid (w ∷ ws) [] e = absurd (omega arith)
length-laid (w ∷ ws) (v ∷ vs) e = rw (length-append, length-number, length-laid ws vs (omega arith))

pub laid-bytes : (ws : List Width) (vs : List ℕ) → Fit ws vs → (k : ℕ) → get_or (laid_out ws vs) k 0 < 256
laid-bytes [] vs f k = omega arith
laid-bytes (w ∷ ws) [] f k = absurd f
laid-bytes (w ∷ ws) (v ∷ vs) f k = append-bytes (big_endian w v) (laid_out ws vs) (number-bytes w v f.0) (laid-bytes ws vs f.1) k

-- values that are laid out read back, as many as have a width
values-first : (ws : List Width) (vs rest : List ℕ) → Fit ws vs → values_at ws 0 (laid_out ws vs ++ rest) ≡ take (length ws) vs
values-first [] vs rest f = refl
values-first (w ∷ ws) [] rest f = absurd f
values-first (w ∷ ws) (v ∷ vs) rest f =
    let s = big_endian w v ++ (laid_out ws vs ++ rest) in
    let t : values_at ws (0 + bytes w) s ≡ take (length ws) vs =
    ap (λ (n : ℕ). values_at ws n s) (zero-add (bytes w))
    ∙ sym (values-from ws (bytes w) s)
    ∙ ap (values_at ws 0) (drop_at (big_endian w v) (laid_out ws vs ++ rest) (bytes w) (length-number w v))
    ∙ values-first ws vs rest f.1 in
    rw (append_assoc (big_endian w v) (laid_out ws vs) rest) (λ i. number-first w v (laid_out ws vs ++ rest) f.0 i ∷ t i)

pub values-back : (ws : List Width) (o : ℕ) (vs pre rest : List ℕ) → length pre ≡ o → Fit ws vs
    → values_at ws o (pre ++ laid_out ws vs ++ rest) ≡ take (length ws) vs
values-back ws o vs pre rest e f =
    sym (values-from ws o (pre ++ laid_out ws vs ++ rest))
    ∙ ap (λ (s : List ℕ). values_at ws 0 (drop o s)) (append_assoc pre (laid_out ws vs) rest)
    ∙ ap (values_at ws 0) (drop_at pre (laid_out ws vs ++ rest) o e)
    ∙ values-first ws vs rest f

-- those that have none are 0, so each is what it was
pub field_back : (ws : List Width) (vs : List ℕ) → Fit ws vs → (k : ℕ) → get_or (take (length ws) vs) k 0 ≡ get_or vs k 0
field_back [] [] f k = refl
field_back [] (v ∷ vs) f zero = sym f.0
field_back [] (v ∷ vs) f (suc k) = field_back [] vs f.1 k
field_back (w ∷ ws) [] f k = absurd f
field_back (w ∷ ws) (v ∷ vs) f zero = refl
field_back (w ∷ ws) (v ∷ vs) f (suc k) = field_back ws vs f.1 k

-- values that were read are laid out as the bytes they were read from
pub laid-back : (ws : List Width) (o : ℕ) (s : List ℕ) → ((k : ℕ) → get_or s k 0 < 256) → o + size ws ≤ length s
    → laid_out ws (values_at ws o s) ≡ take (size ws) (drop o s)
laid-back [] o s b h = refl
laid-back (w ∷ ws) o s b h =
    rw (
      take-add (bytes w) (size ws) (drop o s),
      drop-drop (bytes w) o s,
      bytes_back w o s b (omega arith),
      laid-back ws (o + bytes w) s b (omega arith),
    )

-- values that were read fit
pub values-fit : (ws : List Width) (o : ℕ) (s : List ℕ) → ((k : ℕ) → get_or s k 0 < 256) → Fit ws (values_at ws o s)
values-fit [] o s b = tt
values-fit (w ∷ ws) o s b = (number_fits w o s b, values-fit ws (o + bytes w) s b)

-- zeros fit every layout
zero-fits : (w : Width) → 0 < bound w
zero-fits bits8 = omega arith
zero-fits bits16 = omega arith
zero-fits bits32 = omega arith
zero-fits bits64 = omega arith

pub zeros-said : (ws : List Width) (n : ℕ) → length ws ≤ n → Fit ws (replicate n 0)
zeros-said [] zero h = tt
zeros-said [] (suc n) h = (refl, zeros-said [] n (omega arith))
zeros-said (w ∷ ws) zero h = absurd (omega arith)
zeros-said (w ∷ ws) (suc n) h = (zero-fits w, zeros-said ws n (omega arith))

pub zeros-fit : (ws : List Width) → Fit ws (replicate (length ws) 0)
zeros-fit ws = zeros-said ws (length ws) (omega arith)

-- ## An older layout

-- one value for each width, as f gives them
abbrev pub padded : List Width → (ℕ → ℕ) → List ℕ
padded [] f = []
padded (w ∷ ws) f = f 0 ∷ padded ws (λ k. f (suc k))

-- an older layout: no width of it is wider than the one at its place, and it has no more of them
abbrev pub older : List Width → List Width → Bool
older [] xs = true
older (w ∷ ws) [] = false
older (w ∷ ws) (x ∷ xs) = leb (bound w) (bound x) && older ws xs

length-values : (ws : List Width) (o : ℕ) (s : List ℕ) → length (values_at ws o s) ≡ length ws
length-values [] o s = refl
length-values (w ∷ ws) o s = ap suc (length-values ws (o + bytes w) s)

own-fits : (ws xs : List Width) (vs : List ℕ) → length vs ≡ length ws → length ws ≤ length xs → Fit ws vs
    → Fit ws (padded xs (λ k. get_or vs k 0))
own-fits [] [] vs e l f = tt
own-fits [] (x ∷ xs) [] e l f = (refl, own-fits [] xs [] refl (omega arith) tt)
own-fits [] (x ∷ xs) (v ∷ vs) e l f = absurd (omega arith)
own-fits (w ∷ ws) [] vs e l f = absurd (omega arith)
own-fits (w ∷ ws) (x ∷ xs) [] e l f = absurd f
own-fits (w ∷ ws) (x ∷ xs) (v ∷ vs) e l f = (f.0, own-fits ws xs vs (omega arith) (omega arith) f.1)

-- values that were read by an older layout fit it, with 0 for those that it lacks
pub values-own : (ws xs : List Width) (o : ℕ) (s : List ℕ) → length ws ≤ length xs → ((k : ℕ) → get_or s k 0 < 256)
    → Fit ws (padded xs (λ k. get_or (values_at ws o s) k 0))
values-own ws xs o s l b = own-fits ws xs (values_at ws o s) (length-values ws o s) l (values-fit ws o s b)

-- and what fits an older layout fits the newer one
pub fits_wider : (ws xs : List Width) (vs : List ℕ) → older ws xs ≡ true → length vs ≡ length xs → Fit ws vs → Fit xs vs
fits_wider [] [] [] e l f = tt
fits_wider [] [] (v ∷ vs) e l f = absurd (omega arith)
fits_wider [] (x ∷ xs) [] e l f = absurd (omega arith)
fits_wider [] (x ∷ xs) (v ∷ vs) e l f = (rw f.0 (zero-fits x), fits_wider [] xs vs refl (omega arith) f.1)
fits_wider (w ∷ ws) [] vs e l f = absurd (false≢true e)
fits_wider (w ∷ ws) (x ∷ xs) [] e l f = absurd f
fits_wider (w ∷ ws) (x ∷ xs) (v ∷ vs) e l f =
    let q = leb-true (bound w) (bound x) (and_left (leb (bound w) (bound x)) (older ws xs) e) in
    (omega (arith, q, f.0), fits_wider ws xs vs (and_right (leb (bound w) (bound x)) (older ws xs) e) (omega arith) f.1)

-- Laws of tables: pieces of equal length one after another, and lists with blank slots after the filled ones.
use Prim.Native.Nat.{ℕ, zero, suc, ◌+◌, ◌*◌, ◌-◌, ◌<◌, ◌≤◌}
use mathlib.Core.Path.{◌≡◌, refl, sym, ap, ap₂, ◌∙◌}
use mathlib.Core.Bool.{Bool, ◌&&◌}
use mathlib.Core.List.{List, [], ◌∷◌, ◌++◌, append_assoc}
use native.Mathlib.Omega.{arith}
use native.Mathlib.Nat.{mul-suc, mul-zero, mul-le-mul_left}
use native.Mathlib.Numerals.{add-one}
use native.Mathlib.Decide.{dec_le}
use lib.ListN.{length, get_or, take, drop, replicate, length-append, length-replicate, take-append-drop}
use lib.Seq.{take_at, drop_at, drop-drop, take-add, get_or-append-add, get_or_at, ext_get_or}
use Rattle.numbers.proofs.FieldLaws.{append-bytes}
use Rattle.numbers.specs.Count.{all, joined, listed}

-- a number is below an end or not
pub below_or_not : {P : Type 0} (i n : ℕ) → (i < n → P) → (n ≤ i → P) → P
below_or_not i n f g = elim (dec_le n i) [ yes q ↦ g q | no q ↦ f (omega arith) ]

-- ## What is counted depends only on the numbers below the end

pub all_same : (f g : ℕ → Bool) (n : ℕ) → ((i : ℕ) → i < n → f i ≡ g i) → all f n ≡ all g n
unfolding all
all_same f g zero h = refl
all_same f g (suc n) h = ap₂ ◌&&◌ (all_same f g n (λ i l. h i (omega arith))) (h n (omega arith))

pub joined_same : (f g : ℕ → List ℕ) (n : ℕ) → ((i : ℕ) → i < n → f i ≡ g i) → joined f n ≡ joined g n
unfolding joined
joined_same f g zero h = refl
joined_same f g (suc n) h = ap₂ ◌++◌ (joined_same f g n (λ i l. h i (omega arith))) (h n (omega arith))

pub listed_same : {A : Type 0} (f g : ℕ → A) (n : ℕ) → ((i : ℕ) → i < n → f i ≡ g i) → listed f n ≡ listed g n
unfolding listed
listed_same f g zero h = refl
listed_same {A} f g (suc n) h = ap₂ (λ (l : List A) (x : A). l ++ (x ∷ [])) (listed_same f g n (λ i l. h i (omega arith)))
    (h n (omega arith))

-- ## Rows of w bytes, the first at an offset

-- row i of n ends no later than the n rows do
pub row_fits : (w at i n len o : ℕ) → o ≡ at + w * i → i < n → at + w * n ≤ len → o + w ≤ len
row_fits w at i n len o e h r = omega (arith, e, mul-suc w i, mul-le-mul_left w h, r)

-- the next row is behind it
pub row_next : (w at i o : ℕ) → o ≡ at + w * i → o + w ≡ at + w * (i + 1)
row_next w at i o e = let q : w * (i + 1) ≡ w * i + w = rw (add-one) (mul-suc w i) in omega (arith, e, q)

-- ## Pieces of m bytes, one after another

module _ (f : ℕ → List ℕ) (m : ℕ) (even : (i : ℕ) → length (f i) ≡ m) where
  pub length-joined : (n : ℕ) → length (joined f n) ≡ m * n
  unfolding joined
  length-joined zero = sym (mul-zero m)
  length-joined (suc n) = rw (length-append, length-joined n, even, mul-suc)

  -- piece i is at m * i
  piece-first : (n i : ℕ) (rest : List ℕ) → i < n → take m (drop (m * i) (joined f n ++ rest)) ≡ f i
  unfolding joined
  piece-first zero i rest h = absurd (omega arith)
  piece-first (suc n) i rest h =
      rw (append_assoc (joined f n) (f n) rest)
      (below_or_not i n (piece-first n i (f n ++ rest)) (λ q.
      let e : i ≡ n = omega arith in
      rw (e, drop_at (joined f n) (f n ++ rest) (m * n) (length-joined n)) (take_at (f n) rest m (even n))))

  pub piece-at : (n i o : ℕ) (pre rest : List ℕ) → length pre ≡ o → i < n
      → take m (drop (o + m * i) (pre ++ joined f n ++ rest)) ≡ f i
  piece-at n i o pre rest e h =
      rw (append_assoc pre (joined f n) rest, ← drop-drop (m * i) o (pre ++ (joined f n ++ rest)), drop_at pre (joined f n ++ rest) o e)
      (piece-first n i rest h)

  -- what follows that offset begins with piece i
  pub piece-begins : (n i o : ℕ) (pre rest : List ℕ) → length pre ≡ o → i < n
      → drop (o + m * i) (pre ++ joined f n ++ rest) ≡ f i ++ drop m (drop (o + m * i) (pre ++ joined f n ++ rest))
  piece-begins n i o pre rest e h =
      let s = drop (o + m * i) (pre ++ joined f n ++ rest) in
      sym (take-append-drop m s) ∙ ap (λ (x : List ℕ). x ++ drop m s) (piece-at n i o pre rest e h)

-- the pieces that bytes are cut into make up the bytes
pub pieces-joined : (m n o : ℕ) (s : List ℕ) → joined (λ (i : ℕ). take m (drop (o + m * i) s)) n ≡ take (m * n) (drop o s)
unfolding joined
pieces-joined m zero o s = rw mul-zero
pieces-joined m (suc n) o s = rw (pieces-joined m n o s, mul-suc, take-add (m * n) m (drop o s), drop-drop (m * n) o s)

-- pieces of bytes make bytes
pub joined_bytes : (f : ℕ → List ℕ) → ((i k : ℕ) → get_or (f i) k 0 < 256) → (n k : ℕ) → get_or (joined f n) k 0 < 256
unfolding joined
joined_bytes f h zero k = omega arith
joined_bytes f h (suc n) k = append-bytes (joined f n) (f n) (joined_bytes f h n) (h n) k

-- ## Slots: n filled, the others blank

module _ {A : Type 0} where
  pub length-listed : (f : ℕ → A) (n : ℕ) → length (listed f n) ≡ n
  unfolding listed
  length-listed f zero = refl
  length-listed f (suc n) = rw (length-append, length-listed f n) (omega arith)

  pub listed_at : (f : ℕ → A) (n i : ℕ) (d : A) (rest : List A) → i < n → get_or (listed f n ++ rest) i d ≡ f i
  unfolding listed
  listed_at f zero i d rest h = absurd (omega arith)
  listed_at f (suc n) i d rest h =
      rw (append_assoc (listed f n) (f n ∷ []) rest)
      (below_or_not i n (listed_at f n i d (f n ∷ rest)) (λ q.
      let e : i ≡ n = omega arith in
      rw e (get_or_at (listed f n) (f n) rest d n (length-listed f n))))

  pub blanks : (k i : ℕ) (d : A) → get_or (replicate k d) i d ≡ d
  blanks zero i d = refl
  blanks (suc k) zero d = refl
  blanks (suc k) (suc i) d = blanks k i d

  pub blank-at : (f : ℕ → A) (n i k : ℕ) (d : A) → n ≤ i → get_or (listed f n ++ replicate k d) i d ≡ d
  blank-at f n i k d h =
      let e : i ≡ length (listed f n) + (i - n) = rw (length-listed) (omega arith) in
      rw (e, get_or-append-add (listed f n) (replicate k d) (i - n) d) (blanks k (i - n) d)

  pub length-slots : (f : ℕ → A) (n k : ℕ) (d : A) → length (listed f n ++ replicate k d) ≡ n + k
  length-slots f n k d = rw (length-append, length-listed, length-replicate)

  -- a list whose slots from n on are blank is its first n, then blanks
  pub slots-back : (l : List A) (n k : ℕ) (d : A) → length l ≡ n + k → ((i : ℕ) → n ≤ i → get_or l i d ≡ d)
      → listed (λ (i : ℕ). get_or l i d) n ++ replicate k d ≡ l
  slots-back l n k d e blank =
      ext_get_or d (listed (λ (i : ℕ). get_or l i d) n ++ replicate k d) l (length-slots (λ (i : ℕ). get_or l i d) n k d ∙ sym e) (λ i h.
      below_or_not i n (listed_at (λ (i : ℕ). get_or l i d) n i d (replicate k d)) (λ q.
      blank-at (λ (i : ℕ). get_or l i d) n i k d q ∙ sym (blank i q)))

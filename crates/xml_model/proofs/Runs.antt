-- Laws of bytes, of equal bytes, and of runs.
use Prim.Native.Nat.{ℕ, zero, suc, ◌+◌, ◌-◌, ◌<◌, ◌≤◌}
use mathlib.Core.Path.{◌≡◌, refl, sym, ap, ◌∙◌}
use mathlib.Core.Bool.{Bool, true, false, cond, ◌||◌, ◌&&◌, not, false≢true}
use mathlib.Core.List.{List, [], ◌∷◌}
use native.Mathlib.Numerals.{add-one}
use native.Mathlib.Omega.{arith}
use lib.ListN.{length, get_or, drop, length-drop, drop_of_length-le}
use lib.Seq.{drop-cons, get_or-drop}
use lib.Dec.{ltb, eqb}
use borrow.Author.Tests.{eqb-true, eq-eqb, ne_eqb, lt-ltb, le-ltb, ltb-true, ltb-false}
use Rattle.std.specs.Prelude.{position, unwrap_or}
use Rattle.std.specs.List.{position_or_len}
use Rattle.std.proofs.lemmas.List.Sums.{prefix_len-le-length}
use lib.Pointwise.{pointwise}
use Rattle.numbers.proofs.Tests.{on_test}
use Rattle.xml_model.specs.Bytes.{byte_at, same, is_name_start, in_class, span, run_end, is_mark, stuck, looked}

-- ## A byte

pub byte-in : (s : List ℕ) (i : ℕ) → i < length s → byte_at s i ≡ get_or s i 0
unfolding byte_at
byte-in s i h = rw (lt-ltb i (length s) h)

pub byte-out : (s : List ℕ) (i : ℕ) → length s ≤ i → byte_at s i ≡ 256
unfolding byte_at
byte-out s i h = rw (le-ltb i (length s) h)

-- what is less than 256 is a byte of the text
pub byte_inside : (s : List ℕ) (i : ℕ) → byte_at s i < 256 → i < length s
unfolding byte_at
byte_inside s i = go (ltb i (length s)) refl
  where
    go : (b : Bool) → ltb i (length s) ≡ b → cond b (get_or s i 0) 256 < 256 → i < length s
    go true q h = ltb-true i (length s) q
    go false q h = absurd (omega arith)

pub inside : (s : List ℕ) (i c : ℕ) → c < 256 → byte_at s i ≡ c → i < length s
inside s i c h e = byte_inside s i (omega arith)

pub name-inside : (s : List ℕ) (i : ℕ) → is_name_start (byte_at s i) ≡ true → i < length s
unfolding byte_at
name-inside s i = go (ltb i (length s)) refl
  where
    go : (b : Bool) → ltb i (length s) ≡ b → is_name_start (cond b (get_or s i 0) 256) ≡ true → i < length s
    go true q e = ltb-true i (length s) q
    go false q e = absurd (false≢true e)

-- a quote is 34 or 39
pub quote-small : (q : ℕ) → (eqb q 34 || eqb q 39) ≡ true → q < 256
quote-small q = go (eqb q 34) refl (eqb q 39) refl
  where
    go : (a : Bool) → eqb q 34 ≡ a → (b : Bool) → eqb q 39 ≡ b → (a || b) ≡ true → q < 256
    go true p b r e = omega (arith, eqb-true q 34 p)
    go false p true r e = omega (arith, eqb-true q 39 r)
    go false p false r e = absurd (false≢true e)

-- ## Equal bytes

pub same_true : (x y : List ℕ) → same x y ≡ true → x ≡ y
unfolding same
same_true [] [] e = refl
same_true [] (y ∷ ys) e = absurd (false≢true e)
same_true (x ∷ xs) [] e = absurd (false≢true e)
same_true (x ∷ xs) (y ∷ ys) e = go (eqb x y) refl e (same_true xs ys)
  where
    go : (b : Bool) → eqb x y ≡ b → cond b (same xs ys) false ≡ true → (same xs ys ≡ true → xs ≡ ys) → x ∷ xs ≡ y ∷ ys
    go true q e h = let a = eqb-true x y q in let t = h e in cc
    go false q e h = absurd (false≢true e)

pub same_self : (x : List ℕ) → same x x ≡ true
unfolding same
same_self [] = refl
same_self (x ∷ xs) = rw (eq-eqb x x refl) (same_self xs)

pub same-lengths : (x y : List ℕ) → (length x ≡ length y → ⊥) → same x y ≡ false
same-lengths x y h = on_test (same x y) (λ q. absurd (h (ap length (same_true x y q)))) (λ q. q)

-- `==` of two slices
pub same_slices : (x y : List ℕ) → pointwise eqb x y ≡ same x y
unfolding same
same_slices [] [] = refl
same_slices [] (y ∷ ys) = refl
same_slices (x ∷ xs) [] = refl
same_slices (x ∷ xs) (y ∷ ys) = rw (same_slices xs ys) (both (eqb x y) (same xs ys))
  where
    both : (a b : Bool) → (a && b) ≡ cond a b false
    both true b = refl
    both false b = refl

-- ## Runs

not_not : (b : Bool) → not (not b) ≡ b
not_not true = refl
not_not false = refl

span-cons : (p : ℕ → Bool) (x : ℕ) (xs : List ℕ) → span p (x ∷ xs) ≡ cond (p x) (suc (span p xs)) 0
unfolding span
span-cons p x xs = refl

up_to : (p : ℕ → Bool) (l : List ℕ) → position_or_len (λ x. not (p x)) l ≡ span p l
unfolding span
up_to p [] = refl
up_to p (x ∷ xs) =
    let e : 1 + span p xs ≡ suc (span p xs) = omega arith in
    rw (not_not (p x), up_to p xs, e)

-- it ends at the first byte that does not pass
pub span-position : (p : ℕ → Bool) (l : List ℕ) → unwrap_or (position (λ x. not (p x)) l) (length l) ≡ span p l
span-position p l =
    let n = position_or_len (λ x. not (p x)) l in
    on_test (ltb n (length l))
    (λ q. rw q (up_to p l))
    (λ q.
    let e : length l ≡ n = omega (arith, prefix_len-le-length (λ x. not (not (p x))) l, ltb-false n (length l) q) in
    rw q (e ∙ up_to p l))

span-le : (p : ℕ → Bool) (l : List ℕ) → span p l ≤ length l
unfolding span
span-le p [] = omega arith
span-le p (x ∷ xs) = go (p x) (span-le p xs)
  where
    go : (b : Bool) → span p xs ≤ length xs → cond b (suc (span p xs)) 0 ≤ suc (length xs)
    go true h = omega arith
    go false h = omega arith

span-class : (p : ℕ → Bool) (l : List ℕ) (j : ℕ) → j < span p l → p (get_or l j 0) ≡ true
unfolding span
span-class p [] j h = absurd (omega arith)
span-class p (x ∷ xs) j h = by (p x) refl j h (span-class p xs)
  where
    by : (b : Bool) → p x ≡ b → (j : ℕ) → j < cond b (suc (span p xs)) 0
        → ((j : ℕ) → j < span p xs → p (get_or xs j 0) ≡ true) → p (get_or (x ∷ xs) j 0) ≡ true
    by true q zero h ih = q
    by true q (suc j) h ih = ih j (omega arith)
    by false q j h ih = absurd (omega arith)

module _ (k : ℕ) (s : List ℕ) (i : ℕ) where
  pub run_on : i < length s → in_class k (get_or s i 0) ≡ true → run_end k s i ≡ run_end k s (i + 1)
  unfolding run_end
  run_on h e = rw (drop-cons s i 0 h, span-cons, e, add-one) (omega arith)

  pub run-off : i < length s → in_class k (get_or s i 0) ≡ false → run_end k s i ≡ i
  unfolding run_end
  run-off h e = rw (drop-cons s i 0 h, span-cons, e) (omega arith)

  pub run_out : length s ≤ i → run_end k s i ≡ i
  unfolding run_end span
  run_out h = rw (drop_of_length-le s {i = i} h) (omega arith)

  pub run-from : i ≤ run_end k s i
  unfolding run_end
  run-from = omega arith

  pub run-within : i ≤ length s → run_end k s i ≤ length s
  unfolding run_end
  run-within h = omega (arith, span-le (in_class k) (drop i s), length-drop i s)

  -- every byte of a run is of its class
  pub in-run : (j : ℕ) → i ≤ j → j < run_end k s i → in_class k (get_or s j 0) ≡ true
  unfolding run_end
  in-run j h l =
      let x : i + (j - i) ≡ j = omega arith in
      ap (λ (n : ℕ). in_class k (get_or s n 0)) (sym x)
      ∙ ap (in_class k) (sym (get_or-drop i s (j - i) 0))
      ∙ span-class (in_class k) (drop i s) (j - i) (omega arith)

-- the byte behind a run is not of its class
span-ends : (p : ℕ → Bool) (l : List ℕ) → span p l < length l → p (get_or l (span p l) 0) ≡ false
unfolding span
span-ends p [] h = absurd (omega arith)
span-ends p (x ∷ xs) h = by (p x) refl h (span-ends p xs)
  where
    by : (b : Bool) → p x ≡ b → cond b (suc (span p xs)) 0 < suc (length xs)
        → (span p xs < length xs → p (get_or xs (span p xs) 0) ≡ false) → p (get_or (x ∷ xs) (cond b (suc (span p xs)) 0) 0) ≡ false
    by true q h ih = ih (omega arith)
    by false q h ih = q

pub run_ends : (k : ℕ) (s : List ℕ) (i : ℕ) → run_end k s i < length s → in_class k (get_or s (run_end k s i) 0) ≡ false
unfolding run_end
run_ends k s i h =
    ap (in_class k) (sym (get_or-drop i s (span (in_class k) (drop i s)) 0))
    ∙ span-ends (in_class k) (drop i s) (omega (arith, length-drop i s))

-- ## Where the scan is stuck

pub stuck-pos : (s : List ℕ) (i : ℕ) → stuck s i ≡ 0 → ⊥
unfolding stuck
stuck-pos s i = go (is_mark s i)
  where
    go : (b : Bool) → ◌≡◌ {A = ℕ} (cond b 41 40) 0 → ⊥
    go true e = omega arith
    go false e = omega arith

module _ (s : List ℕ) (i : ℕ) where
  -- the text is looked at beyond i, and beyond its end by one at most
  pub looked-on : i ≤ length s → i < looked s i
  unfolding looked
  looked-on h = go (ltb i (length s)) (eqb (byte_at s i) 60)
    where
      go : (a b : Bool) → i < cond a (cond b (i + 2) (i + 1)) (length s + 1)
      go true true = omega arith
      go true false = omega arith
      go false b = omega arith

  pub looked-within : looked s i ≤ length s + 1
  unfolding looked
  looked-within = go (ltb i (length s)) refl (eqb (byte_at s i) 60)
    where
      go : (a : Bool) → ltb i (length s) ≡ a → (b : Bool) → cond a (cond b (i + 2) (i + 1)) (length s + 1) ≤ length s + 1
      go true q true = omega (arith, ltb-true i (length s) q)
      go true q false = omega (arith, ltb-true i (length s) q)
      go false q b = omega arith

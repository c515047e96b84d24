-- Laws of numbers in a text: that saturation changes no accepted value, and how large the number is that a few digits are.
use Prim.Native.Nat.{ℕ, zero, suc, ◌+◌, ◌-◌, ◌*◌, ◌<◌, ◌≤◌, min}
use mathlib.Core.Path.{◌≡◌, refl, sym, ap, ◌∙◌}
use mathlib.Core.Bool.{Bool, true, false, cond, ◌&&◌, and-false}
use mathlib.Core.List.{List, [], ◌∷◌}
use native.Mathlib.Numerals.{add-one}
use native.Mathlib.Omega.{arith}
use lib.ListN.{length, get_or, take, drop, drop_of_length-le}
use lib.Seq.{drop-cons}
use lib.Dec.{leb, eqb}
use borrow.Author.Tests.{leb-true}
use Rattle.numbers.proofs.Tests.{on_test, and_right, row-passed}
use Rattle.numbers.proofs.TableLaws.{below_or_not}
use Rattle.model.specs.Book.{most_seconds}
use Rattle.xml_model.specs.Bytes.{byte_at, digits, in_class, span, run_end}
use Rattle.xml_model.specs.Values.{value_if, number_from, number_of, digits_at, number_at, time_formed}
use Rattle.xml_model.proofs.Runs.{run-within, run_out}
use Rattle.xml_values.specs.Saturated.{ceiling}

-- ## Saturation

both : (x d : ℕ) → min (10 * x + d) ceiling ≡ min (10 * min x ceiling + d) ceiling
both x d = omega arith

saturates : (x : ℕ) (l : List ℕ) → min (number_from x l) ceiling ≡ min (number_from (min x ceiling) l) ceiling
unfolding number_from
saturates x [] = omega arith
saturates x (c ∷ cs) =
    saturates (10 * x + (c - 48)) cs
    ∙ ap (λ (y : ℕ). min (number_from y cs) ceiling) (both x (c - 48))
    ∙ sym (saturates (10 * min x ceiling + (c - 48)) cs)

number-cons : (x c : ℕ) (cs : List ℕ) → number_from x (c ∷ cs) ≡ number_from (10 * x + (c - 48)) cs
unfolding number_from
number-cons x c cs = refl

-- one digit more
pub number-turn : (x : ℕ) (l : List ℕ) (i : ℕ) → i < length l
    → min (number_from x (drop i l)) ceiling ≡ min (number_from (min (10 * x + (get_or l i 0 - 48)) ceiling) (drop (i + 1) l)) ceiling
number-turn x l i h = rw (add-one, drop-cons l i 0 h, number-cons) (saturates (10 * x + (get_or l i 0 - 48)) (drop (suc i) l))

pub number-end : (x : ℕ) (l : List ℕ) (i : ℕ) → length l ≤ i → number_from x (drop i l) ≡ x
unfolding number_from
number-end x l i h = rw (drop_of_length-le l {i = i} h)

-- two numbers that are the same if either passes the test give the same value
pub same-value : (w : Bool) (test : ℕ → Bool) (x y : ℕ) → (test x ≡ true → x ≡ y) → (test y ≡ true → x ≡ y)
    → value_if (w && test x) x ≡ value_if (w && test y) y
unfolding value_if
same-value w test x y p q =
    on_test (test x)
    (λ h. ap (λ (n : ℕ). value_if (w && test n) n) (p h))
    (λ h.
    on_test (test y)
    (λ g. ap (λ (n : ℕ). value_if (w && test n) n) (q g))
    (λ g. rw (h, g, and-false w)))

same-below : (w : Bool) (most x y : ℕ) → (x ≤ most → x ≡ y) → (y ≤ most → x ≡ y)
    → value_if (w && leb x most) x ≡ value_if (w && leb y most) y
same-below w most x y p q = same-value w (λ n. leb n most) x y (λ h. p (leb-true x most h)) (λ h. q (leb-true y most h))

-- the sum of a duration's parts
pub same-duration : (w timed : Bool) (d h m s : ℕ)
    → let x = min d ceiling * 86400 + cond timed (min h ceiling * 3600 + min m ceiling * 60 + min s ceiling) 0 in
    let y = d * 86400 + cond timed (h * 3600 + m * 60 + s) 0 in
    value_if (w && leb x most_seconds) x ≡ value_if (w && leb y most_seconds) y
same-duration w true d h m s = same-below w most_seconds
    (min d ceiling * 86400 + (min h ceiling * 3600 + min m ceiling * 60 + min s ceiling))
    (d * 86400 + (h * 3600 + m * 60 + s))
    (λ q. omega arith) (λ q. omega arith)
same-duration w false d h m s = same-below w most_seconds
    (min d ceiling * 86400 + 0) (d * 86400 + 0)
    (λ q. omega arith) (λ q. omega arith)

-- ## The number that n digits are

digit-below : (c : ℕ) → in_class digits c ≡ true → c - 48 < 10
unfolding in_class
digit-below c h = omega (arith, leb-true c 57 (and_right (leb 48 c) (leb c 57) h))

-- n zeros behind y
unfoldable pub grown : ℕ → ℕ → ℕ
grown zero y = y
grown (suc n) y = grown n (10 * y)

grown-le : (n y z : ℕ) → y ≤ z → grown n y ≤ grown n z
unfolding grown
grown-le zero y z h = h
grown-le (suc n) y z h = grown-le n (10 * y) (10 * z) (omega arith)

span_more : (p : ℕ → Bool) (c : ℕ) (cs : List ℕ) (n : ℕ) → suc n ≤ span p (c ∷ cs) → (p c ≡ true) × (n ≤ span p cs)
unfolding span
span_more p c cs n = go (p c) refl
  where
    go : (b : Bool) → p c ≡ b → suc n ≤ cond b (suc (span p cs)) 0 → (p c ≡ true) × (n ≤ span p cs)
    go true q h = (q, omega arith)
    go false q h = absurd (omega arith)

-- x stood before them
digits-bound : (n x : ℕ) (l : List ℕ) → n ≤ span (in_class digits) l → number_from x (take n l) < grown n (x + 1)
unfolding number_from span grown
digits-bound zero x l h = omega arith
digits-bound (suc n) x [] h = absurd (omega arith)
digits-bound (suc n) x (c ∷ cs) h =
    let m = span_more (in_class digits) c cs n h in
    let y = 10 * x + (c - 48) in
    omega (
      arith,
      digits-bound n y cs m.1,
      grown-le n (y + 1) (10 * (x + 1)) (omega (arith, digit-below c m.0)),
    )

pub number_small : (v : List ℕ) (i n : ℕ) → digits_at v i n ≡ true → number_at v i n < grown n 1
unfolding digits_at run_end number_of
number_small v i n h =
    let e : i + n - i ≡ n = omega arith in
    let l = drop i v in
    rw e (digits-bound n 0 l (omega (arith, leb-true (i + n) (i + span (in_class digits) l) h)))

-- a run that is not empty ends in the text
pub run_inside : (k : ℕ) (v : List ℕ) (i : ℕ) → i < run_end k v i → run_end k v i ≤ length v
run_inside k v i h = below_or_not i (length v)
    (λ q. run-within k v i (omega arith))
    (λ q. absurd (omega (arith, run_out k v i q)))

pub digits-inside : (v : List ℕ) (i n : ℕ) → 0 < n → digits_at v i n ≡ true → i + n ≤ length v
unfolding digits_at
digits-inside v i n p h =
    let e = leb-true (i + n) (run_end digits v i) h in
    omega (arith, e, run_inside digits v i (omega (arith, e)))

-- where the digits of a time are
pub time-digits : (v : List ℕ) {w : Bool} → w ≡ time_formed v → w ≡ true
    → (digits_at v 0 4 ≡ true) × (digits_at v 5 2 ≡ true) × (digits_at v 8 2 ≡ true) × (digits_at v 11 2 ≡ true)
    × (digits_at v 14 2 ≡ true) × (digits_at v 17 2 ≡ true)
unfolding time_formed
time-digits v {w} q f =
    let h = sym q ∙ f in
    let p = (row-passed (eqb (length v) 20)
    (digits_at v 0 4 ∷ eqb (byte_at v 4) 45
    ∷ digits_at v 5 2 ∷ eqb (byte_at v 7) 45
    ∷ digits_at v 8 2 ∷ eqb (byte_at v 10) 84
    ∷ digits_at v 11 2 ∷ eqb (byte_at v 13) 58
    ∷ digits_at v 14 2 ∷ eqb (byte_at v 16) 58
    ∷ digits_at v 17 2 ∷ eqb (byte_at v 19) 90 ∷ []) h).1 in
    (p.0, p.1.1.0, p.1.1.1.1.0, p.1.1.1.1.1.1.0, p.1.1.1.1.1.1.1.1.0, p.1.1.1.1.1.1.1.1.1.1.0)

-- Laws of tests: a single one, a row of them, and stages, of which the first that fails gives its number.
use mathlib.Core.Path.{◌≡◌, refl, sym, ◌∙◌, ap}
use Prim.Native.Nat.{ℕ, zero, suc, ◌<◌, ◌+◌}
use mathlib.Core.Bool.{Bool, true, false, cond, not, ◌&&◌, ◌||◌, true≢false, false≢true}
use mathlib.Core.List.{List, [], ◌∷◌, map}
use native.Mathlib.Omega.{arith}
use lib.Dec.{eqb}
use Rattle.numbers.specs.Count.{all, how_many}
use borrow.Author.Tests.{eqb-true, eqb-false, eq-eqb, ne_eqb}

-- ## One test

-- a test passes or fails
pub on_test : {P : Type 0} (b : Bool) → (b ≡ true → P) → (b ≡ false → P) → P
on_test true f g = f refl
on_test false f g = g refl

pub on_same : {P : Type 0} (a b : ℕ) → (a ≡ b → P) → ((a ≡ b → ⊥) → P) → P
on_same a b f g = on_test (eqb a b) (λ e. f (eqb-true a b e)) (λ e. g (eqb-false a b e))

pub eqb-self : (n : ℕ) → eqb n n ≡ true
eqb-self n = eq-eqb n n refl

pub clash : {P : Type 0} {b : Bool} → b ≡ true → b ≡ false → P
clash p q = absurd (true≢false (sym p ∙ q))

pub cond-on : {A : Type 0} (b : Bool) (x y : A) → b ≡ true → cond b x y ≡ x
cond-on b x y e = rw e

pub cond-off : {A : Type 0} (b : Bool) (x y : A) → b ≡ false → cond b x y ≡ y
cond-off b x y e = rw e

-- ## Two tests

pub and_left : (a b : Bool) → (a && b) ≡ true → a ≡ true
and_left true b e = refl
and_left false b e = absurd (false≢true e)

pub and_right : (a b : Bool) → (a && b) ≡ true → b ≡ true
and_right true b e = e
and_right false b e = absurd (false≢true e)

pub and_both : {a b : Bool} → a ≡ true → b ≡ true → (a && b) ≡ true
and_both {a} {b} p q = rw (p, q)

pub neither : (a b : Bool) → (a || b) ≡ false → (a ≡ false) × (b ≡ false)
neither true b e = absurd (true≢false e)
neither false b e = (refl, e)

-- a test that applies only if f is set
pub implied : (f t : Bool) → (f ≡ true → t ≡ true) → (not f || t) ≡ true
implied true t h = h refl
implied false t h = refl

pub implied-at : (f t : Bool) → (not f || t) ≡ true → f ≡ true → t ≡ true
implied-at true t e h = e
implied-at false t e h = clash h refl

-- a test that applies only if f is not set
pub otherwise : (f t : Bool) → (f ≡ false → t ≡ true) → (f || t) ≡ true
otherwise true t h = refl
otherwise false t h = h refl

pub otherwise-at : (f t : Bool) → (f || t) ≡ true → f ≡ false → t ≡ true
otherwise-at true t e h = clash refl h
otherwise-at false t e h = e

-- ## A row of tests `a && b && ..`, and that each of them passes

abbrev pub row : Bool → List Bool → Bool
row a [] = a
row a (b ∷ bs) = row (a && b) bs

abbrev pub Pass : List Bool → Type 0
Pass [] = Unit {0}
Pass (b ∷ bs) = (b ≡ true) × Pass bs

pub row-passed : (a : Bool) (bs : List Bool) → row a bs ≡ true → (a ≡ true) × Pass bs
row-passed a [] e = (e, tt)
row-passed a (b ∷ bs) e = let h = row-passed (a && b) bs e in (and_left a b h.0, (and_right a b h.0, h.1))

-- ## A list of tests of which none passes

abbrev pub Fail : List Bool → Type 0
Fail [] = Unit {0}
Fail (b ∷ bs) = (b ≡ false) × Fail bs

pub none_pass : (bs : List Bool) → eqb (how_many bs) 0 ≡ true → Fail bs
none_pass [] e = tt
none_pass (true ∷ bs) e = absurd (omega (arith, eqb-true (1 + how_many bs) 0 e))
none_pass (false ∷ bs) e = (refl, none_pass bs (eq-eqb (how_many bs) 0 (omega (arith, eqb-true (0 + how_many bs) 0 e))))

-- as a row `not a && not b && ..`
pub none_row : (a : Bool) (bs : List Bool) → row a (map not bs) ≡ (a && eqb (how_many bs) 0)
none_row true [] = refl
none_row false [] = refl
none_row true (true ∷ bs) = none_row false bs ∙ sym (ne_eqb (1 + how_many bs) 0 (λ e. omega arith))
none_row true (false ∷ bs) = let e : how_many bs ≡ 0 + how_many bs = omega arith in none_row true bs ∙ ap (λ (n : ℕ). eqb n 0) e
none_row false (b ∷ bs) = none_row false bs

-- ## Stages: 0 if none fails

-- the first stage does not fail, and neither does a later one
pub passed : (t : Bool) (c x : ℕ) → cond t (suc c) x ≡ 0 → (t ≡ false) × (x ≡ 0)
passed true c x e = absurd (omega arith)
passed false c x e = (refl, e)

-- a code h, and after it one that applies only if h is 0
pub both_zero : (h x : ℕ) → cond (eqb h 0) x h ≡ 0 → (h ≡ 0) × (x ≡ 0)
both_zero h x e = go (eqb h 0) refl e
  where
    go : (t : Bool) → eqb h 0 ≡ t → cond t x h ≡ 0 → (h ≡ 0) × (x ≡ 0)
    go true q z = (eqb-true h 0 q, z)
    go false q z = (z, absurd (eqb-false h 0 q z))

-- ## A test of each number below n

pub all-below : (f : ℕ → Bool) (n : ℕ) → all f n ≡ true → (i : ℕ) → i < n → f i ≡ true
unfolding all
all-below f zero e i h = absurd (omega arith)
all-below f (suc n) e i h = on_same i n
    (λ q. rw q (and_right (all f n) (f n) e))
    (λ d. all-below f n (and_left (all f n) (f n) e) i (omega (arith, d)))

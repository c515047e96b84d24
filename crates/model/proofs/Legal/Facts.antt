-- More on updates by position and on counting, for the proofs that an event leaves a legal book.
use mathlib.Core.Path.{◌≡◌, refl, ap, ◌∙◌, fun_ext}
use Prim.Native.Nat.{ℕ, zero, suc, ◌+◌, ◌<◌}
use mathlib.Core.Bool.{Bool, true}
use native.Mathlib.Omega.{arith}
use Rattle.numbers.specs.Count.{all, sum}
use Rattle.numbers.proofs.Loops.{sum-change}
use Rattle.model.proofs.Ledger.Facts.{on_same, and_both, upd, upd_same, upd_other}

-- ## Positions

-- storing what a position already holds
pub upd-own : {A : Type 0} (i : ℕ) (f : ℕ → A) → upd i (f i) f ≡ f
upd-own i f = fun_ext (λ j. on_same j i (λ x. rw x (upd_same i (f i) f)) (λ x. upd_other i (f i) f j x))

-- ## Counting

pub all_of : (f : ℕ → Bool) (n : ℕ) → ((i : ℕ) → i < n → f i ≡ true) → all f n ≡ true
unfolding all
all_of f zero h = refl
all_of f (suc n) h = and_both (all_of f n (λ i j. h i (omega arith))) (h n (omega arith))

pub sum-none : (f : ℕ → ℕ) (n : ℕ) → ((i : ℕ) → i < n → f i ≡ 0) → sum f n ≡ 0
unfolding sum
sum-none f zero h = refl
sum-none f (suc n) h = omega (arith, sum-none f n (λ i j. h i (omega arith)), h n (omega arith))

-- a sum with one term changed
pub sum-upd : {A : Type 0} (w : A → ℕ) (p : ℕ) (x : A) (f : ℕ → A) (n : ℕ) → p < n → sum (λ q. w (upd p x f q)) n + w (f p) ≡ sum
    (λ q. w (f q)) n + w x
sum-upd {A} w p x f n h =
    sum-change (λ q. w (f q)) (λ q. w (upd p x f q)) p n (λ q d. ap w (upd_other p x f q d)) h
    ∙ ap (λ (y : A). sum (λ q. w (f q)) n + w y) (upd_same p x f)

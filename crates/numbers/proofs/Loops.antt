-- What the proof of a counting loop cites about the definitions of `Count`: what one turn adds, and what holds at the end.
use Prim.Native.Nat.{ℕ, suc, ◌+◌, ◌-◌, ◌<◌, zero, ◌≤◌}
use mathlib.Core.Path.{◌≡◌, sym, ◌∙◌, refl, ap₂}
use mathlib.Core.Bool.{Bool, true, false, ◌&&◌}
use mathlib.Core.List.{List, ◌++◌, map}
use native.Mathlib.Numerals.{add-one}
use native.Mathlib.Decide.{le_ind}
use native.Mathlib.Omega.{arith}
use lib.ListN.{length, set, replicate, length-map}
use lib.Seq.{set_at, append_snoc}
use borrow.Author.Tests.{lt-ltb, le-ltb}
use Rattle.numbers.specs.Count.{all, first, sum, listed}
use Rattle.numbers.proofs.TableLaws.{length-listed, below_or_not}
use Rattle.numbers.proofs.Tests.{on_same}

pub all-turn : (f : ℕ → Bool) (i : ℕ) → all f (i + 1) ≡ all f i && f i
unfolding all
all-turn f i = rw add-one

pub sum-turn : (f : ℕ → ℕ) (i : ℕ) → sum f (i + 1) ≡ sum f i + f i
unfolding sum
sum-turn f i = rw add-one

module _ (f : ℕ → Bool) where
  -- a search that has found nothing below i, and nothing at i
  pub first_on : (i : ℕ) → first f i ≡ i → f i ≡ false → first f (i + 1) ≡ i + 1
  unfolding first
  first_on i none here = rw (add-one, none, le-ltb i i (omega arith), here)

  here_found : (i : ℕ) → first f i ≡ i → f i ≡ true → first f (suc i) ≡ i
  unfolding first
  here_found i none here = rw (none, le-ltb i i (omega arith), here)

  kept : (i n : ℕ) → i < n → first f n ≡ i → first f (suc n) ≡ i
  unfolding first
  kept i n h e = rw (e, lt-ltb i n h)

  -- a search that finds a match at i and none below i
  pub first_found : (i n : ℕ) → i < n → first f i ≡ i → f i ≡ true → first f n ≡ i
  first_found i n h none here = le_ind (λ m. first f m ≡ i) (here_found i none here) (λ m w e. kept i m w e) n h

module _ {A : Type 0} (f : ℕ → A) where
  -- a loop that fills a blank table: the store at i
  pub listed-turn : (d : A) (m i : ℕ) → i < m
      → set (listed f i ++ replicate (m - i) d) i (f i) ≡ listed f (i + 1) ++ replicate (m - (i + 1)) d
  unfolding listed
  listed-turn d m i h =
      let e : m - i ≡ suc (m - (i + 1)) = omega arith in
      rw (e, add-one)
      (set_at (listed f i) d (replicate (m - suc i) d) (f i) i (length-listed f i) ∙ sym
      (append_snoc (listed f i) (f i) (replicate (m - suc i) d)))

-- the length of an array of structs, known from ownership
pub length-mapped : (X Y : Type 0) (f : X → Y) (l : List X) (n : ℕ) → length (map f l) ≡ n → length l ≡ n
length-mapped X Y f l n p = sym (length-map l f) ∙ p

-- ## Sums

pub sum_same : (f g : ℕ → ℕ) (n : ℕ) → ((p : ℕ) → p < n → f p ≡ g p) → sum f n ≡ sum g n
unfolding sum
sum_same f g zero h = refl
sum_same f g (suc n) h = ap₂ ◌+◌ (sum_same f g n (λ p l. h p (omega arith))) (h n (omega arith))

pub sum-most : (f g : ℕ → ℕ) (n : ℕ) → ((p : ℕ) → p < n → f p ≤ g p) → sum f n ≤ sum g n
unfolding sum
sum-most f g zero h = omega arith
sum-most f g (suc n) h = omega (arith, sum-most f g n (λ p l. h p (omega arith)), h n (omega arith))

-- two sums whose terms differ at p alone
pub sum-change : (f g : ℕ → ℕ) (p n : ℕ) → ((q : ℕ) → (q ≡ p → ⊥) → g q ≡ f q) → p < n → sum g n + f p ≡ sum f n + g p
unfolding sum
sum-change f g p zero h l = absurd (omega arith)
sum-change f g p (suc n) h l = on_same n p
    (λ e. let s = sum_same g f n (λ q w. h q (λ z. absurd (omega (arith, z, e)))) in rw (e, ← e) (omega (arith, s)))
    (λ d. let s = sum-change f g p n h (below l d) in let t = h n d in omega (arith, s, t))
  where
    below : p < suc n → (n ≡ p → ⊥) → p < n
    below k d = below_or_not p n (λ h. h) (λ h. absurd (d (omega arith)))

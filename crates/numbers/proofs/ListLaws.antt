-- What a chain of iterators says of the first n elements of a table is what the definitions count up to n.
use Rattle.std.specs.Prelude.{ℕ, zero, suc, ◌≤◌, ◌<◌, ◌≡◌, Bool, true, false, ◌&&◌, List, length, get_or, take, ltb}
use Rattle.std.specs.List.{list_all, position_or_len, enumerate_from}
use Rattle.std.proofs.Common.{refl, sym, ap, ap₂, ◌∙◌, arith, length-take-le, take_all}
use Rattle.std.proofs.lemmas.List.{get_or-take}
use Rattle.std.proofs.lemmas.List.Folds.{list_all_more}
use native.Mathlib.Numerals.{add-one}
use native.Mathlib.Nat.{zero-add}
use Rattle.std.proofs.lemmas.List.FromFn.{length-enumerate_from, get_or-enumerate_from}
use Rattle.std.proofs.lemmas.List.Sums.{position_or_len_is}
use borrow.Author.Tests.{ltb-true, ltb-false}
use Rattle.numbers.specs.Count.{all, first}
use Rattle.numbers.proofs.Tests.{on_test, on_same}
use Rattle.numbers.proofs.TableLaws.{all_same}

pub list_all-all : {X : Type 0} (p : X → Bool) (xs : List X) (d : X) (n : ℕ) → n ≤ length xs →
    list_all p (take n xs) ≡ all (λ i. p (get_or xs i d)) n
unfolding all
list_all-all p xs d zero h = refl
list_all-all p xs d (suc n) h =
    ap (λ k. list_all p (take k xs)) (sym (add-one n)) ∙ list_all_more p xs n d (omega arith) ∙ ap (λ (b : Bool). b && p (get_or xs n d)) (list_all-all p xs d n (omega arith))

-- ## Searches

module _ (f : ℕ → Bool) where
  pub first_most : (n : ℕ) → first f n ≤ n
  unfolding first
  first_most zero = omega arith
  first_most (suc n) =
      on_test (ltb (first f n) n)
      (λ q. rw q (omega (arith, ltb-true (first f n) n q)))
      (λ q. on_test (f n) (λ r. rw (q, r) (omega arith)) (λ r. rw (q, r) (omega arith)))

  pub first_below : (n k : ℕ) → k < first f n → f k ≡ false
  unfolding first
  first_below zero k h = absurd (omega arith)
  first_below (suc n) k h =
      on_test (ltb (first f n) n)
      (λ q. first_below n k (rw q at h))
      (λ q.
      let e = ltb-false (first f n) n q in
      on_test (f n)
      (λ r. let w : k < n = rw (q, r) at h in first_below n k (omega arith))
      (λ r. let w : k < suc n = rw (q, r) at h in on_same k n (λ s. rw s r) (λ s. first_below n k (omega arith))))

  pub first_passes : (n : ℕ) → first f n < n → f (first f n) ≡ true
  unfolding first
  first_passes zero h = absurd (omega arith)
  first_passes (suc n) h =
      on_test (ltb (first f n) n)
      (λ q. rw q (first_passes n (ltb-true (first f n) n q)))
      (λ q. on_test (f n) (λ r. rw (q, r) r) (λ r. let z : suc n < suc n = rw (q, r) at h in absurd (omega arith)))

pub first_same : (f g : ℕ → Bool) (n : ℕ) → ((i : ℕ) → i < n → f i ≡ g i) → first f n ≡ first g n
unfolding first
first_same f g zero h = refl
first_same f g (suc n) h = rw (first_same f g n (λ i l. h i (omega arith)), h n (omega arith)) refl

pub position-first : {X : Type 0} (p : X → Bool) (xs : List X) (d : X) → position_or_len p xs ≡ first (λ i. p (get_or xs i d)) (length xs)
position-first p xs d =
    let f = λ (i : ℕ). p (get_or xs i d) in
    position_or_len_is p xs (first f (length xs)) d (first_most f (length xs)) (first_below f (length xs)) (first_passes f (length xs))

-- among the first n elements
pub position-first-of : {X : Type 0} (p : X → Bool) (xs : List X) (d : X) (n : ℕ) → n ≤ length xs →
    position_or_len p (take n xs) ≡ first (λ i. p (get_or xs i d)) n
position-first-of p xs d n h =
    position-first p (take n xs) d
    ∙ ap (first (λ i. p (get_or (take n xs) i d))) (length-take-le n xs h)
    ∙ first_same (λ i. p (get_or (take n xs) i d)) (λ i. p (get_or xs i d)) n (λ i l. ap p (get_or-take n xs i d l))

-- ## Tests that also see the position

pub list_all-enumerated : {X : Type 0} (q : ℕ → X → Bool) (xs : List X) (d : X) (n : ℕ) → n ≤ length xs
    → list_all (λ (p : ℕ × X). q p.0 p.1) (enumerate_from 0 (take n xs)) ≡ all (λ i. q i (get_or xs i d)) n
list_all-enumerated {X} q xs d n h =
    let ys = take n xs in
    let es = enumerate_from 0 ys in
    let e : length ys ≡ n = length-take-le n xs h in
    let l : length es ≡ n = length-enumerate_from 0 ys ∙ e in
    let test : ℕ × X → Bool = λ p. q p.0 p.1 in
    ap (list_all test) (sym (take_all n es (omega (arith, l))))
    ∙ list_all-all test es (0, d) n (omega (arith, l))
    ∙ all_same _ _ n (λ i k. ap test (get_or-enumerate_from 0 ys i (0, d) (omega (arith, e, k)))
    ∙ ap₂ q (zero-add i) (get_or-take n xs i d k))

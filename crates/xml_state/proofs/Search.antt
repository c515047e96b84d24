-- The first of the first n elements of a table that passes: what `position` says of them is what the definitions say.
use Rattle.std.specs.Prelude.{ℕ, zero, suc, ◌≤◌, ◌<◌, ◌≡◌, Bool, List, length, get_or, take, Option, MatchOption, position}
use Rattle.std.specs.List.{position_or_len}
use Rattle.std.proofs.Common.{refl, arith}
use Rattle.std.proofs.Math.Seq.{take-suc, length-take-le}
use Rattle.std.proofs.lemmas.List.Folds.{position_or_len_push}
use borrow.Author.Tests.{lt-ltb, le-ltb, eq-eqb, ne_eqb}
use Rattle.numbers.specs.Count.{first}
use Rattle.numbers.proofs.Tests.{on_test}
use Rattle.numbers.proofs.TableLaws.{below_or_not}

first-le : (f : ℕ → Bool) (n : ℕ) → first f n ≤ n
unfolding first
first-le f zero = omega arith
first-le f (suc n) = below_or_not (first f n) n (λ h. rw (lt-ltb _ _ h) (omega arith))
    (λ h. rw (le-ltb _ _ h) (on_test (f n) (λ q. rw q (omega arith)) (λ q. rw q (omega arith))))

pub position-first : {X : Type 0} (p : X → Bool) (xs : List X) (d : X) (n : ℕ) → n ≤ length xs
    → position_or_len p (take n xs) ≡ first (λ i. p (get_or xs i d)) n
unfolding first
position-first p xs d zero h = refl
position-first p xs d (suc n) h =
    let f = λ (i : ℕ). p (get_or xs i d) in
    let q : position_or_len p (take n xs) ≡ first f n = position-first p xs d n (omega arith) in
    let m = first-le f n in
    rw (take-suc xs n d (omega arith), position_or_len_push p (take n xs) (get_or xs n d), length-take-le n xs (omega arith), q)
    (below_or_not (first f n) n
    (λ w. rw (lt-ltb _ _ w, ne_eqb (first f n) n (λ e. omega arith)))
    (λ w. rw (le-ltb _ _ w, eq-eqb (first f n) n (omega arith)) (on_test (p (get_or xs n d))
    (λ t. rw t (omega arith)) (λ t. rw t (omega arith)))))

-- what `position` finds among the first n elements
pub position-told : {X : Type 0} (p : X → Bool) (xs : List X) (d : X) (n : ℕ) → n ≤ length xs → (r : Option ℕ)
    → r ≡ position p (take n xs)
    → MatchOption r (first (λ i. p (get_or xs i d)) n ≡ n) (λ i. (i < n) × (first (λ i. p (get_or xs i d)) n ≡ i))
position-told p xs d n h r e =
    let f = λ (i : ℕ). p (get_or xs i d) in
    let m = first-le f n in
    rw (e, length-take-le n xs h, position-first p xs d n h)
    (below_or_not (first f n) n
    (λ w. rw (lt-ltb _ _ w) (w, refl))
    (λ w. rw (le-ltb _ _ w) (omega arith)))

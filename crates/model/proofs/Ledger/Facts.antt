-- Flags, caps and updates by position: small facts that the other files cite. The laws of tests are re-exported from crate `numbers`.
use mathlib.Core.Path.{◌≡◌, refl}
use Prim.Native.Nat.{ℕ, ◌+◌, ◌≤◌}
use mathlib.Core.Bool.{Bool, true, false, not, cond, false≢true}
use lib.Dec.{ltb, eqb}
use native.Mathlib.Omega.{arith}
use borrow.Author.Tests.{eqb-true, eqb-false, ne_eqb, lt-ltb, le-ltb, not-false}
use Rattle.numbers.specs.Count.{one}
pub use Rattle.numbers.proofs.Tests.{on_test, on_same, eqb-self, clash, cond-on, cond-off, and_left, and_right, and_both}
pub use Rattle.numbers.proofs.BitLaws.{one-le}
use Rattle.book.specs.declared.Meters.{Meters}
use Rattle.model.specs.Meters.{where_flagged}
use Rattle.model.specs.Choice.{cap, fails}

-- a flagged limit that is no ground passes its test
pub passes : (f b : Bool) → fails f b ≡ false → f ≡ true → b ≡ true
passes true b e h = not-false b e
passes false b e h = absurd (false≢true h)

-- not above 0
pub not-positive : (n : ℕ) → not (ltb 0 n) ≡ eqb n 0
not-positive n = on_test (eqb n 0)
    (λ q. rw (q, le-ltb 0 n (omega (arith, eqb-true n 0 q))))
    (λ q. rw (q, lt-ltb 0 n (omega (arith, eqb-false n 0 q))))

-- where_flagged
pub flag-on : (f : Bool) (v : ℕ) → f ≡ true → where_flagged f v ≡ v
flag-on f v e = rw e

pub flag-le : (f : Bool) (v : ℕ) → where_flagged f v ≤ v
flag-le true v = omega arith
flag-le false v = omega arith

pub flag-add : (f : Bool) (v w : ℕ) → where_flagged f (v + w) ≡ where_flagged f v + where_flagged f w
flag-add true v w = refl
flag-add false v w = omega arith

-- caps
pub cap-le : (f : Bool) (v x : ℕ) → cap f v x ≤ x
cap-le true v x = omega arith
cap-le false v x = omega arith

pub cap-at : (f : Bool) (v x : ℕ) → f ≡ true → cap f v x ≤ v
cap-at true v x e = omega arith
cap-at false v x e = absurd (false≢true e)

pub cap-ge : (f : Bool) (v x t : ℕ) → t ≤ x → (f ≡ true → t ≤ v) → t ≤ cap f v x
cap-ge true v x t h k = let j : t ≤ v = k refl in omega arith
cap-ge false v x t h k = h

-- positions
unfoldable pub upd : {A : Type 0} → ℕ → A → (ℕ → A) → ℕ → A
upd i a f j = cond (eqb j i) a (f j)

pub upd_same : {A : Type 0} (i : ℕ) (a : A) (f : ℕ → A) → upd i a f i ≡ a
unfolding upd
upd_same i a f = cond-on (eqb i i) a (f i) (eqb-self i)

pub upd_other : {A : Type 0} (i : ℕ) (a : A) (f : ℕ → A) (j : ℕ) → (j ≡ i → ⊥) → upd i a f j ≡ f j
unfolding upd
upd_other i a f j h = cond-off (eqb j i) a (f j) (ne_eqb j i h)

-- meters are equal by their fields
pub meters-path : {a b : Meters} → a.count ≡ b.count → a.timed ≡ b.timed → a.started ≡ b.started → a.first ≡ b.first → a.seconds ≡ b.seconds → a.marks ≡ b.marks → a ≡ b
meters-path p q r s w x = λ k. record { count = p k; timed = q k; started = r k; first = s k; seconds = w k; marks = x k }

-- a number that stands for a test
pub one-is : (b : Bool) → eqb (one b) 1 ≡ b
one-is true = refl
one-is false = refl

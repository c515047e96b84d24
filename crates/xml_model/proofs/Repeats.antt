-- Laws of a loop as a definition.
use Prim.Native.Nat.{ℕ, zero, suc, ◌<◌}
use mathlib.Core.Path.{◌≡◌, refl, ap, ◌∙◌}
use native.Mathlib.Omega.{arith}
use Rattle.xml_model.specs.Repeat.{Next, stop, more, onward, turns, repeat}

module _ {A R : Type 0} (size : A → ℕ) (f : A → Next A R) (none : R) where
  pub repeat-stop : (a : A) (r : R) → f a ≡ stop r → repeat size f none a ≡ r
  unfolding repeat turns
  repeat-stop a r e = ap (onward (λ b. turns f none (size a) b)) e

  module _ (falls : (a b : A) → f a ≡ more b → size b < size a) where
    enough : (n k : ℕ) (a : A) → size a < n → size a < k → turns f none n a ≡ turns f none k a
    unfolding turns
    enough zero k a h l = absurd (omega arith)
    enough (suc n) zero a h l = absurd (omega arith)
    enough (suc n) (suc k) a h l = by (f a) refl (enough n k)
      where
        by : (x : Next A R) → f a ≡ x → ((b : A) → size b < n → size b < k → turns f none n b ≡ turns f none k b)
            → onward (λ b. turns f none n b) x ≡ onward (λ b. turns f none k b) x
        by (stop r) e ih = refl
        by (more b) e ih = ih b (omega (arith, falls a b e)) (omega (arith, falls a b e))

    -- a loop whose size falls with every turn goes on after a turn as if it began there
    pub repeat-more : (a b : A) → f a ≡ more b → repeat size f none a ≡ repeat size f none b
    unfolding repeat turns
    repeat-more a b e =
        ap (onward (λ c. turns f none (size a) c)) e ∙ enough (size a) (suc (size b)) b (falls a b e) (omega arith)

-- what holds if a turn stops, and of a turn if of the next, holds of the whole
pub repeat-ind : {A R : Type 0} (size : A → ℕ) (f : A → Next A R) (none : R) (P : A → R → Type 0) → ((a : A) → P a none)
    → ((a : A) (r : R) → f a ≡ stop r → P a r) → ((a b : A) (r : R) → f a ≡ more b → P b r → P a r)
    → (a : A) → P a (repeat size f none a)
unfolding repeat turns
repeat-ind {A = A} {R = R} size f none P z s m a = all (suc (size a)) a
  where
    step : (n : ℕ) → ((b : A) → P b (turns f none n b)) → (a : A) (x : Next A R) → f a ≡ x → P a (onward (λ b. turns f none n b) x)
    step n ih a (stop r) e = s a r e
    step n ih a (more b) e = m a b (turns f none n b) e (ih b)

    all : (n : ℕ) (a : A) → P a (turns f none n a)
    all zero a = z a
    all (suc n) a = step n (all n) a (f a) refl

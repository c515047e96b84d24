-- Laws of equal ranges, for the loop that compares two of them byte by byte.
use Rattle.std.specs.Prelude.{ℕ, ◌+◌, ◌<◌, ◌≡◌, Bool, true, false, List, eqb}
use Rattle.std.proofs.Math.Path.{refl}
use Rattle.std.proofs.Common.{◌∙◌, eq-eqb, ne_eqb}
use Rattle.numbers.specs.Count.{all}
use Rattle.numbers.proofs.Tests.{on_test, clash, and_both, all-below}
use Rattle.numbers.proofs.Loops.{all-turn}
use Rattle.xml_model.specs.Bytes.{byte_at}
use Rattle.xml_model.specs.State.{alike}

module _ (s : List ℕ) (a x : ℕ) where
  at : ℕ → Bool
  at i = eqb (byte_at s (a + i)) (byte_at s (x + i))

  pub alike-none : alike s a x 0 ≡ true
  unfolding alike all
  alike-none = refl

  pub alike-on : (i : ℕ) → alike s a x i ≡ true → byte_at s (a + i) ≡ byte_at s (x + i) → alike s a x (i + 1) ≡ true
  unfolding alike at
  alike-on i h e = all-turn at i ∙ and_both h (eq-eqb _ _ e)

  pub alike-off : (i n : ℕ) → i < n → (byte_at s (a + i) ≡ byte_at s (x + i) → ⊥) → alike s a x n ≡ false
  unfolding alike at
  alike-off i n h d = on_test (all at n) (λ e. clash (all-below at n e i h) (ne_eqb _ _ d)) (λ e. e)

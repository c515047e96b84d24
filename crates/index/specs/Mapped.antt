-- A table that is a map over another one: what is at a position, what a store does to both, and the loop that fills it.
use Rattle.std.specs.Prelude.{ℕ, zero, suc, ◌+◌, ◌-◌, ◌<◌, ◌≡◌, refl}
use Rattle.std.proofs.Math.Path.{sym, ap, ap₂}
use Rattle.std.proofs.Common.{◌∙◌, ext_get_or}
use Rattle.std.specs.Array.{IsMapOf}
use Rattle.std.specs.Fn.{Called}
use denote.Param.Members.{Mut}
use mathlib.Core.List.{List, [], ◌∷◌, ◌++◌, map}
use native.Mathlib.Omega.{arith}
use Rattle.std.proofs.Math.ListN.{length, get_or, set, replicate, length-map, get_or-eq_default}
use Rattle.numbers.specs.Count.{listed}
use Rattle.numbers.proofs.Loops.{listed-turn}
use Rattle.numbers.proofs.TableLaws.{slots-back}

module _ {A B : Type 0} (f : A → B) where
  pub mapped_at : (l : List A) (k : ℕ) (d : A) (e : B) → k < length l → get_or (map f l) k e ≡ f (get_or l k d)
  mapped_at [] k d e h = absurd (omega arith)
  mapped_at (x ∷ l) zero d e h = refl
  mapped_at (x ∷ l) (suc k) d e h = mapped_at l k d e (omega arith)

  pub mapped-set : (l : List A) (k : ℕ) (y : A) → map f (set l k y) ≡ set (map f l) k (f y)
  mapped-set [] k y = refl
  mapped-set (x ∷ l) zero y = refl
  mapped-set (x ∷ l) (suc k) y = ap (λ (t : List B). f x ∷ t) (mapped-set l k y)

  -- a table of m slots with the first i filled
  unfoldable pub filled_to : List A → B → ℕ → ℕ → List B
  filled_to l e m i = listed (λ k. get_or (map f l) k e) i ++ replicate (m - i) e

  pub filled_none : (l : List A) (e : B) (m : ℕ) → replicate m e ≡ filled_to l e m 0
  unfolding filled_to listed
  filled_none l e m = let z : m ≡ m - 0 = omega arith in ap (λ (n : ℕ). replicate n e) z

  pub filled-turn : (l : List A) (d : A) (e : B) (m i : ℕ) (t : List B) (v : B) → length l ≡ m → i < m → t ≡ filled_to l e m i → v ≡ f
      (get_or l i d) → set t i v ≡ filled_to l e m (i + 1)
  unfolding filled_to
  filled-turn l d e m i t v n h p q =
      ap₂ (λ (t' : List B) (v' : B). set t' i v') p (q ∙ sym (mapped_at l i d e (omega arith)))
      ∙ listed-turn (λ k. get_or (map f l) k e) e m i h

  pub filled-all : (l : List A) (e : B) (m i : ℕ) (t : List B) → length l ≡ m → i ≡ m → t ≡ filled_to l e m i → t ≡ map f l
  unfolding filled_to
  filled-all l e m i t n z p =
      let k : length (map f l) ≡ m + 0 = omega (arith, length-map l f, n) in
      let none : m - m ≡ 0 = omega arith in
      p
      ∙ ap (λ (j : ℕ). listed (λ k. get_or (map f l) k e) j ++ replicate (m - j) e) z
      ∙ ap (λ (j : ℕ). listed (λ k. get_or (map f l) k e) m ++ replicate j e) none
      ∙ slots-back (map f l) m 0 e k (λ j h. get_or-eq_default (map f l) e (omega arith))

-- an array's `map` with a closure that computes f
pub map-computes :
    {F A B : Type 0} (g : Mut F (A × Unit {0}) B) (s : F) (xs : List A) (ys : List B) (n : ℕ) (f : A → B) (d : A) (e : B) →
    IsMapOf g s xs ys n →
    length xs ≡ n →
    ((x : A) (y : B) (p q : F) → Called g p (x, tt) y q → y ≡ f x) →
    ys ≡ map f xs
map-computes g s xs ys n f d e h size computes =
    ext_get_or e ys (map f xs) (h.long ∙ sym (length-map xs f ∙ size))
    (λ i l.
    let few : i < n = omega (arith, l, h.long) in
    let k = h.at i d e few in
    computes (get_or xs i d) (get_or ys i e) k.0 k.1 k.2 ∙ sym (mapped_at f xs i d e (omega (arith, few, size))))

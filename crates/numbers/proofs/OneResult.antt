-- Some contracts say by a relation what a function returns. Such a relation says as much as an equality if two results that meet it are
-- equal.
use Rattle.std.specs.Prelude.{ℕ, ◌≡◌, eqb, List, Option, None, Some, find, Result, Ok, Err, MatchResult, MatchOption}
use Rattle.std.proofs.Common.{refl, sym, ap, ◌∙◌}

-- two values that meet it are equal
abbrev pub One : {A : Type 0} → (A → Type 0) → Type 0
One {A} P = (a b : A) → P a → P b → a ≡ b

-- if that holds of the values and of the refusals, and there is no value where there is a refusal
pub one_result : {A E : Type 0} (P : A → Type 0) (Q : E → Type 0) → One P → One Q → ((a : A) (e : E) → P a → Q e → ⊥)
    → One (λ (r : Result A E). MatchResult r P Q)
one_result P Q p q never (Ok a) (Ok b) h k = ap Ok (p a b h k)
one_result P Q p q never (Ok a) (Err e) h k = absurd (never a e h k)
one_result P Q p q never (Err e) (Ok a) h k = absurd (never a e k h)
one_result P Q p q never (Err e) (Err f) h k = ap Err (q e f h k)

pub one_option : {A : Type 0} (N : Type 0) (P : A → Type 0) → One P → ((a : A) → N → P a → ⊥) → One (λ (r : Option A). MatchOption r N P)
one_option N P p never (Some a) (Some b) h k = ap Some (p a b h k)
one_option N P p never (Some a) None h k = absurd (never a k h)
one_option N P p never None (Some a) h k = absurd (never a h k)
one_option N P p never None None h k = refl

-- the input is f of the value, or g of the refusal: f and g are one to one and never meet
module _ {A E C : Type 0} (f : A → C) (g : E → C) (c : C) where
  pub one_of : ((a b : A) → f a ≡ f b → a ≡ b) → ((d e : E) → g d ≡ g e → d ≡ e) → ((a : A) (e : E) → f a ≡ g e → ⊥)
      → One (λ (r : Result A E). MatchResult r (λ a. c ≡ f a) (λ e. c ≡ g e))
  one_of p q never =
      one_result (λ a. c ≡ f a) (λ e. c ≡ g e)
      (λ a b h k. p a b (sym h ∙ k))
      (λ d e h k. q d e (sym h ∙ k))
      (λ a e h k. never a e (sym h ∙ k))

-- ## Numbers of the values of an enum: the value that has a number is found in the list of all

abbrev pub numbered : {A : Type 0} → (A → ℕ) → List A → ℕ → Option A
numbered number all n = find (λ a. eqb (number a) n) all

module _ {A : Type 0} (number : A → ℕ) (all : List A) (found : (a : A) → numbered number all (number a) ≡ Some a) where
  pub one_number : (a b : A) → number a ≡ number b → a ≡ b
  one_number a b e =
      let same : Some a ≡ Some b = sym (found a) ∙ ap (numbered number all) e ∙ found b in
      cc

  pub no_number : (n : ℕ) → numbered number all n ≡ None → (a : A) → number a ≡ n → ⊥
  no_number n none a e =
      let same : Some a ≡ None = sym (found a) ∙ ap (numbered number all) e ∙ none in
      cc

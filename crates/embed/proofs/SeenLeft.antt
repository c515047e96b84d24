-- What each exit of the calls that read an image leaves is what `Seen` says.
use Prim.Native.Nat.{ℕ}
use mathlib.Core.Path.{◌≡◌, refl, ap, ◌∙◌}
use mathlib.Core.Bool.{Bool, true, false}
use mathlib.Core.List.{List}
use lib.ListN.{length}
use lib.Dec.{eqb}
use borrow.Author.Tests.{ne_eqb, eqb-true}
use Rattle.numbers.proofs.Tests.{on_test}
use Rattle.std.specs.Prelude.{Option, None, Some}
use native.Mathlib.Omega.{arith}
use Rattle.book.specs.Codes.{image_code}
use Rattle.book.specs.declared.ImageError.{ImageError}
use Rattle.model.specs.Image.{read_code}
use Rattle.fill.specs.Fill.{fill_code, filled}
use Rattle.embed.specs.Failure.{found, viewed_code, viewed_out}
use Rattle.embed.specs.Seen.{absent, seen_code, seen_out}

pub refused-some : (e : ImageError) → image_code e ≡ 0 → ⊥
refused-some ImageError.Length h = absurd (omega arith)
refused-some ImageError.Mark h = absurd (omega arith)
refused-some ImageError.Version h = absurd (omega arith)
refused-some ImageError.Header h = absurd (omega arith)
refused-some ImageError.Assets h = absurd (omega arith)
refused-some ImageError.Entries h = absurd (omega arith)
refused-some ImageError.Players h = absurd (omega arith)
refused-some ImageError.Meters h = absurd (omega arith)

-- what each exit leaves

module _ (s : List ℕ) (there : Bool) (values old : List ℕ) where
  abbrev pub Seen : ℕ → List ℕ → Type 0
  Seen code out = (code ≡ seen_code s there values (length old)) × (out ≡ seen_out s there values old)

  pub seen-refused : (code : ℕ) → code ≡ read_code s → (code ≡ 0 → ⊥) → Seen code old
  unfolding seen_code seen_out
  seen-refused code e n = rw (ne_eqb (read_code s) 0 (λ z. n (e ∙ z))) (e, refl)

  pub seen-absent : read_code s ≡ 0 → there ≡ false → Seen absent old
  unfolding seen_code seen_out
  seen-absent e f = rw (e, f) (refl, refl)

  pub seen-given :
      (code : ℕ) (out given : List ℕ) →
      read_code s ≡ 0 →
      there ≡ true →
      given ≡ values →
      (code ≡ fill_code given (length old)) × (out ≡ filled given old) →
      Seen code out
  unfolding seen_code seen_out
  seen-given code out given e f same p =
      rw (e, f)
      (p.0 ∙ ap (λ (v : List ℕ). fill_code v (length old)) same, p.1 ∙ ap (λ (v : List ℕ). filled v old) same)

-- ## What a view finds where the image is accepted

module _ {A : Type 0} (items : A → List ℕ) (s : List ℕ) (x : A) where
  code-found : (there : Bool) (room : ℕ) → viewed_code items s (found there x) room ≡ seen_code s there (items x) room
  unfolding seen_code
  code-found true room = refl
  code-found false room = refl

  out-found : (there : Bool) (old : List ℕ) → viewed_out items s (found there x) old ≡ seen_out s there (items x) old
  unfolding seen_out
  out-found true old = refl
  out-found false old = refl

  code-refused : (there : Bool) (r : Option A) (room : ℕ) → eqb (read_code s) 0 ≡ false
      → viewed_code items s r room ≡ seen_code s there (items x) room
  unfolding seen_code
  code-refused there (Some y) room w = rw w refl
  code-refused there None room w = rw w refl

  out-refused : (there : Bool) (r : Option A) (old : List ℕ) → eqb (read_code s) 0 ≡ false
      → viewed_out items s r old ≡ seen_out s there (items x) old
  unfolding seen_out
  out-refused there (Some y) old w = rw w refl
  out-refused there None old w = rw w refl

  -- what is returned and left
  pub seen-found :
      (there : Bool) (r : Option A) (code : ℕ) (old out : List ℕ) →
      (read_code s ≡ 0 → r ≡ found there x) →
      code ≡ viewed_code items s r (length old) →
      out ≡ viewed_out items s r old →
      Seen s there (items x) old code out
  seen-found there r code old out same c o =
      on_test (eqb (read_code s) 0)
      (λ w.
      let e = same (eqb-true (read_code s) 0 w) in (
        c ∙ ap (λ (q : Option A). viewed_code items s q (length old)) e ∙ code-found there (length old),
        o ∙ ap (λ (q : Option A). viewed_out items s q old) e ∙ out-found there old,
      ))
      (λ w. (c ∙ code-refused there r (length old) w, o ∙ out-refused there r old w))

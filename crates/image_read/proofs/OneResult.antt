-- Two results of `read` that meet its contract are equal, with the book that they leave, for all bytes and every book held before.
use Rattle.std.specs.Prelude.{ℕ, ◌≡◌, ⊤, List, Result, MatchResult, OnErr}
use Rattle.std.proofs.Common.{refl, sym, ◌∙◌}
use Rattle.numbers.proofs.OneResult.{one_result}
use Rattle.book.specs.Codes.{image_code}
use Rattle.book.specs.declared.Book.{Book}
use Rattle.book.specs.declared.ImageError.{ImageError}
use Rattle.book.proofs.OneNumber.{one-image, image-some}
use Rattle.model.specs.Image.{read_code, read_book}

module _ (old : Book) (s : List ℕ) where
  -- the clauses of the contract
  abbrev pub Reads : Result ⊤ ImageError → Book → Type 0
  Reads result new =
      MatchResult result (λ _. read_code s ≡ 0) (λ e. read_code s ≡ image_code e)
      × (new ≡ read_book old s)
      × OnErr result (new ≡ old)

  pub read : (r r' : Result ⊤ ImageError) (new new' : Book) → Reads r new → Reads r' new' → (r ≡ r') × (new ≡ new')
  read r r' new new' h k = (
    one_result (λ _. read_code s ≡ 0) (λ e. read_code s ≡ image_code e)
        (λ a b p q. refl)
        (λ d e p q. one-image d e (sym p ∙ q))
        (λ a e p q. image-some e (sym q ∙ p))
        r r' h.0 k.0,
    h.1 ∙ sym k.1,
  )

-- Two results that meet the contract of `parse` are equal, for all bytes.
use Rattle.std.specs.Prelude.{ℕ, ◌≡◌, List, Result, MatchResult}
use Rattle.std.proofs.Common.{sym, ◌∙◌}
use Rattle.numbers.proofs.OneResult.{one_result}
use Rattle.book.specs.Codes.{image_code}
use Rattle.book.specs.declared.Book.{Book}
use Rattle.book.specs.declared.ImageError.{ImageError}
use Rattle.book.proofs.OneNumber.{one-image, image-some}
use Rattle.model.specs.Image.{book_in, header_broken}

module _ (s : List ℕ) where
  -- the clause of the contract
  abbrev pub Parses : Result Book ImageError → Type 0
  Parses result = MatchResult result (λ b. (header_broken s ≡ 0) × (b ≡ book_in s)) (λ e. header_broken s ≡ image_code e)

  pub parse : (r r' : Result Book ImageError) → Parses r → Parses r' → r ≡ r'
  parse =
      one_result _ _
      (λ a b h k. h.1 ∙ sym k.1)
      (λ d e h k. one-image d e (sym h ∙ k))
      (λ b e h k. image-some e (sym k ∙ h.0))

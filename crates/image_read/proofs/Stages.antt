-- What the stages of the header and of the book say of the whole image.
use Prim.Native.Nat.{ℕ}
use mathlib.Core.Path.{◌≡◌, sym, ◌∙◌}
use mathlib.Core.List.{List}
use mathlib.Core.Bool.{cond}
use native.Mathlib.Omega.{arith}
use lib.Dec.{eqb}
use borrow.Author.Tests.{ne_eqb}
use Rattle.book.specs.declared.Book.{Book}
use Rattle.book.specs.declared.ImageError.{ImageError}
use Rattle.book.specs.Codes.{image_code}
use Rattle.model.specs.Book.{rule_broken}
use Rattle.model.specs.Image.{book_in, header_broken, read_code, read_book}
use Rattle.model.proofs.Image.Header.{accepted-book, refused-book}

never-0 : (e : ImageError) → image_code e ≡ 0 → ⊥
never-0 ImageError.Length h = absurd (omega arith)
never-0 ImageError.Mark h = absurd (omega arith)
never-0 ImageError.Version h = absurd (omega arith)
never-0 ImageError.Header h = absurd (omega arith)
never-0 ImageError.Assets h = absurd (omega arith)
never-0 ImageError.Entries h = absurd (omega arith)
never-0 ImageError.Players h = absurd (omega arith)
never-0 ImageError.Meters h = absurd (omega arith)

broken-first : (k n : ℕ) (e : ImageError) → k ≡ image_code e → cond (eqb k 0) n k ≡ image_code e
broken-first k n e h = rw (ne_eqb k 0 (λ z. never-0 e (sym h ∙ z))) h

module _ (s : List ℕ) where
  pub header_refused : (e : ImageError) → header_broken s ≡ image_code e → read_code s ≡ image_code e
  unfolding read_code
  header_refused e h = broken-first (header_broken s) (rule_broken (book_in s)) e h

  pub book_judged : (b : Book) (k : ℕ) → header_broken s ≡ 0 → b ≡ book_in s → rule_broken b ≡ k → read_code s ≡ k
  unfolding read_code
  book_judged b k h e r = rw (h, ← e) r

  pub refused_kept : (held : Book) (e : ImageError) → read_code s ≡ image_code e → held ≡ read_book held s
  refused_kept held e h = sym (refused-book held s (λ z. never-0 e (sym h ∙ z)))

  pub accepted_read : (held : Book) → read_code s ≡ 0 → book_in s ≡ read_book held s
  accepted_read held h = sym (accepted-book held s h)

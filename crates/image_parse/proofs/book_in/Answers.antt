-- `image_parse::book_in` meets its contract: the book by the image's layout, with the marks that an older one lacks.
use mathlib.Core.Path.{ap₂, ◌∙◌}
use Prim.Native.Nat.{ℕ}
use native.Mathlib.Omega.{arith}
use Rattle.book.specs.declared.Book.{Book}
use Rattle.model.specs.Image.{marked, version_in, book_in}
use Rattle.image_parse.specs.Header.{header-stands}
use Rattle.image_parse.proofs.book_in.Goals as goal

pub read16-v-requires : goal.read16-v-requires
read16-v-requires c = let h = header-stands c.args.s.now c.requires in omega (arith, h.start)

pub returns : goal.returns
unfolding book_in version_in
returns c =
    c.marked.ensures ∙ ap₂ (λ (v : ℕ) (b : Book). marked v b) c.read16-v.ensures c.book_as-b.ensures

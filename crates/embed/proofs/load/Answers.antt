-- `embed::load` meets its contract: the book that is read, or why the image is refused.
use Rattle.std.proofs.Common.{rules, ◌≡◌, sym, ap, Err, ◌∙◌}
use Rattle.book.specs.declared.Book.{Book}
use Rattle.model.specs.Image.{read_book}
use Rattle.embed.specs.declared.Failure.{Failure}
use Rattle.embed.specs.Calls.{held_book}
use Rattle.embed.proofs.SeenLeft.{refused-some}
use Rattle.embed.proofs.load.Goals as goal

pub returns-in_err-read : goal.returns-in_err-read
returns-in_err-read c =
    let h = c.in_err-read.ensures.code in
    let e : c.from_residual.result ≡ Err (Failure.Image c.in_err-read.field-0.0) = search rules in
    rw e (sym h, λ z. refused-some _ (sym h ∙ z))

pub returns : goal.returns
unfolding held_book
returns c =
    let s = c.args.image.now in
    (c.in_ok-read.ensures.code, c.in_ok-read.ensures.book_after ∙ ap (λ (x : Book). read_book x s) c.blank_book-held.ensures)

-- `embed::rights_book` meets its contract: the view finds the book's numbers.
use Rattle.std.proofs.Common.{rules, ◌∙◌, true}
use Rattle.embed.specs.Seen.{book_seen}
use Rattle.embed.proofs.SeenLeft.{seen-found}
use Rattle.embed.proofs.rights_book.Goals as goal

pub returns : goal.returns
unfolding book_seen
returns c =
    let a = c.args in
    let v = c.view.ensures in
    let seen =
    seen-found (λ x. x) a.image.now (book_seen a.image.now) (true) v.0 _ a.out.now _
    (λ z. let p = v.1 z in search rules) (c.code_of.ensures ∙ v.2) v.3 in
    record { value = seen.0; out_after = seen.1 }

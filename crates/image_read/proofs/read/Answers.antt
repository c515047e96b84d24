-- `image_read::read` meets its contract: a refusal leaves the book that was held.
use Rattle.image_read.proofs.Stages.{header_refused, book_judged, refused_kept}
use Rattle.image_read.proofs.read.Goals as goal

pub returns-in_err-found-clause-book_after : goal.returns-in_err-found-clause-book_after
returns-in_err-found-clause-book_after c = refused_kept _ _ _ (header_refused c.args.s.now _ c.in_err-found.ensures)

pub returns-in_err-rule_broken-clause-book_after : goal.returns-in_err-rule_broken-clause-book_after
returns-in_err-rule_broken-clause-book_after c =
    let found = c.in_ok-found.ensures in
    refused_kept _ _ _ (book_judged c.args.s.now _ _ found.0 found.1 c.in_err-rule_broken.ensures)

-- `image_meters::marks_legal` meets its contract: its tests are the definition's.
use mathlib.Core.Bool.{not-not}
use Rattle.model.specs.Book.{marks_legal}
use borrow.Author.Rules.{rules}
use Rattle.image_meters.proofs.marks_legal.Goals as goal

pub returns : goal.returns
unfolding marks_legal
returns c = rw (c.ones.ensures, not-not)

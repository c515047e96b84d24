-- `image_limits::ranges_legal` meets its contract: its tests are the definition's.
use Rattle.model.specs.Book.{flagged, ranges_legal}
use Rattle.rules.specs.Rules.{flags_of}
use borrow.Author.Rules.{rules}
use Rattle.image_limits.proofs.ranges_legal.Goals as goal

pub returns : goal.returns
unfolding ranges_legal flags_of
returns c = rw (
  c.limit_legal-7.ensures,
  c.limit_legal-6.ensures,
  c.limit_legal-5.ensures,
  c.limit_legal-4.ensures,
  c.limit_legal-3.ensures,
  c.limit_legal-2.ensures,
  c.limit_legal.ensures,
  c.flags_of-f.ensures,
)

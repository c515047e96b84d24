-- `image_players::use_legal` meets its contract: in 64 bits no sum is cut, and its tests are the definition's.
use Rattle.model.specs.Book.{use_legal}
use borrow.Author.Rules.{rules}
use Rattle.image_players.proofs.use_legal.Goals as goal

pub returns : goal.returns
unfolding use_legal
returns c = rw (
  c.content_legal.ensures,
  c.inside_interval.ensures,
  c.inside_dates.ensures,
  c.grant_length-length.ensures,
)

-- `image_limits::asset_legal` meets its contract: its tests are the definition's.
use Rattle.model.specs.Book.{asset_legal}
use borrow.Author.Rules.{rules}
use Rattle.image_limits.proofs.Used.{or_length}
use Rattle.image_limits.proofs.asset_legal.Goals as goal

pub returns : goal.returns
unfolding asset_legal
returns c = rw (c.unwrap_or.ensures, c.asset_position.ensures, or_length)

-- `image_players::open_legal` meets its contract: its tests are the definition's.
use Rattle.model.specs.Book.{open_legal}
use borrow.Author.Rules.{rules}
use Rattle.image_players.proofs.open_legal.Goals as goal

pub returns : goal.returns
unfolding open_legal
returns c = rw (c.pick.ensures, c.use_legal.ensures)

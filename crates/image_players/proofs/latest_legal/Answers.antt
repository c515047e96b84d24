-- `image_players::latest_legal` meets its contract: its tests are the definition's.
use Rattle.model.specs.Book.{latest_legal}
use borrow.Author.Rules.{rules}
use Rattle.image_players.proofs.latest_legal.Goals as goal

pub returns : goal.returns
unfolding latest_legal
returns c = rw c.started_legal.ensures

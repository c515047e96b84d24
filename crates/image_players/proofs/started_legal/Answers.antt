-- `image_players::started_legal` meets its contract: its tests are the definition's.
use Rattle.model.specs.Book.{started_legal}
use Rattle.rules.specs.Rules.{flags_of}
use borrow.Author.Rules.{rules}
use Rattle.image_players.proofs.started_legal.Goals as goal

pub returns : goal.returns
unfolding started_legal flags_of
returns c = rw c.flags_of-f.ensures

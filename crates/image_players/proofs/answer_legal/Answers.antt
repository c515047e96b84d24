-- `image_players::answer_legal` meets its contract: its tests are the definition's.
use Rattle.model.specs.Book.{taken_code, answer_legal}
use borrow.Author.Rules.{rules}
use Rattle.image_players.proofs.answer_legal.Goals as goal

pub returns : goal.returns
unfolding answer_legal taken_code
returns c = rw c.pick.ensures

-- `image_players::inside_dates` meets its contract: in 64 bits no sum is cut, and its tests are the definition's.
use Rattle.model.specs.Book.{inside_dates}
use Rattle.rules.specs.Rules.{flags_of}
use borrow.Author.Rules.{rules}
use Rattle.image_players.proofs.inside_dates.Goals as goal

pub returns : goal.returns
unfolding inside_dates flags_of
returns c = rw c.flags_of-f.ensures

-- `image_players::content_legal` meets its contract: its tests are the definition's.
use mathlib.Core.Path.{refl}
use Rattle.model.specs.Book.{content_legal}
use Rattle.image_players.proofs.content_legal.Goals as goal

pub returns : goal.returns
unfolding content_legal
returns c = refl

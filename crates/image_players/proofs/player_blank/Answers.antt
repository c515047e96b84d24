-- `image_players::player_blank` meets its contract: its tests are the definition's.
use mathlib.Core.Path.{refl}
use Rattle.model.specs.Book.{player_blank}
use Rattle.image_players.proofs.player_blank.Goals as goal

pub returns : goal.returns
unfolding player_blank
returns c = refl

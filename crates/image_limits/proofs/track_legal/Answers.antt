-- `image_limits::track_legal` meets its contract: its tests are the definition's.
use mathlib.Core.Path.{refl}
use Rattle.model.specs.Book.{track_legal}
use Rattle.image_limits.proofs.track_legal.Goals as goal

pub returns : goal.returns
unfolding track_legal
returns c = refl

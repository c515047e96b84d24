-- `image_meters::meters_cover` meets its contract: its tests are the definition's.
use Rattle.model.specs.Book.{meters_cover}
use Rattle.rules.specs.Rules.{flags_of}
use borrow.Author.Rules.{rules}
use Rattle.image_meters.proofs.meters_cover.Goals as goal

pub returns : goal.returns
unfolding meters_cover flags_of
returns c = rw c.flags_of-f.ensures

-- `image_meters::meter_legal` meets its contract, with the flag and without it.
use Rattle.model.specs.Book.{meter_legal}
use Rattle.image_meters.proofs.meter_legal.Goals as goal

pub returns-then-flag : goal.returns-then-flag
unfolding meter_legal
returns-then-flag c = rw c.if-flag.true

pub returns-else-flag : goal.returns-else-flag
unfolding meter_legal
returns-else-flag c = rw c.if-flag.false

-- `image_limits::limit_legal` meets its contract, with the flag and without it.
use Rattle.model.specs.Book.{limit}
use Rattle.image_limits.proofs.limit_legal.Goals as goal

pub returns-then-flag : goal.returns-then-flag
unfolding limit
returns-then-flag c = rw c.if-flag.true

pub returns-else-flag : goal.returns-else-flag
unfolding limit
returns-else-flag c = rw c.if-flag.false

-- `uses::more_until` meets its contract: at a time that an event may have, until fits 32 bits.
use native.Mathlib.Omega.{arith}
use Rattle.uses.specs.Room.{more-fits}
use Rattle.uses.proofs.more_until.Goals as goal

pub overflow_cast-result : goal.overflow_cast-result
overflow_cast-result c = let a = c.args in omega (arith, c.least_until.ensures, more-fits a.t a.old a.l a.m c.requires)

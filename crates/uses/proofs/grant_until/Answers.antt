-- `uses::grant_until` meets its contract: at a time that an event may have, until fits 32 bits.
use native.Mathlib.Omega.{arith}
use Rattle.uses.specs.Room.{more-fits}
use Rattle.uses.proofs.grant_until.Goals as goal

pub overflow_cast-until : goal.overflow_cast-until
overflow_cast-until c = let a = c.args in omega (arith, c.least_until-until.ensures, more-fits a.t a.t a.l a.m c.requires)

-- The unused seconds bound what a continue adds, so its sum fits.
use Rattle.std.proofs.Common.{arith}
use Rattle.model.specs.Choice.{more_until}
use Rattle.uses.specs.Room.{Narrow, more_room}
use Rattle.uses.proofs.continue_on.Goals as goal
use Rattle.uses.proofs.continue_on.Goals.{Start}

-- the numbers of limits and meters fit 32 bits
narrow : (c : Start) → Narrow c.args.l c.args.m
narrow c = record {
  count_limit = omega arith;
  timed_limit = omega arith;
  seconds_limit = omega arith;
  count = omega arith;
  timed = omega arith;
  seconds = omega arith;
}

pub continued_meters-meters-requires : goal.continued_meters-meters-requires
unfolding more_until
continued_meters-meters-requires c =
    let a = c.args in
    rw c.more_until-until.ensures (more_room a.t a.o.until a.l a.m
    (narrow c.before.before.before.before.before.before))

-- A grantable entry has room left, so a grant's sums fit.
use Rattle.std.proofs.Common.{arith, ◌≡◌, true}
use Rattle.model.specs.Choice.{grantable}
use Rattle.uses.specs.Room.{Narrow, grant-room}
use Rattle.uses.proofs.begin_on.Goals as goal
use Rattle.uses.proofs.begin_on.Goals.{Start}

-- the numbers of limits and meters fit 32 bits
narrow : (c : Start) → Narrow c.args.l c.args.m
narrow c = record {
  count_limit = omega arith;
  timed_limit = omega arith;
  seconds_limit = omega arith;
  count = omega arith;
  timed = omega arith;
  seconds = omega arith;
}

pub begun_meters-begun-requires : goal.begun_meters-begun-requires
begun_meters-begun-requires c =
    let a = c.args in
    let able : grantable a.ask a.l a.m ≡ true = cc in
    rw c.grant_until-until.ensures (grant-room a.ask a.l a.m able (narrow c.before.before.before.before))

-- `image_parse::limits_in` meets its contract: each field is read at its offset.
use mathlib.Core.Path.{◌∙◌}
use Prim.Native.Nat.{◌≤◌}
use native.Mathlib.Omega.{arith}
use lib.ListN.{length}
use Rattle.image_parse.specs.Versions.{limits-read, entry-two, entry-four}
use Rattle.image_parse.proofs.limits_in.Goals as goal
use Rattle.image_parse.proofs.limits_in.Goals.{Start}

-- the bytes of the track, from version 2 on
room : (c : Start) → 2 ≤ c.args.v → 63 ≤ length c.args.s.now
room c h = let e = entry-two c.args.v h in omega (arith, e, c.requires.3)

pub added32-tracked-requires : goal.added32-tracked-requires
added32-tracked-requires c h = omega (arith, room c.before.before (omega arith))

pub added32-timedvalue-requires : goal.added32-timedvalue-requires
added32-timedvalue-requires c h = omega (arith, room c.before.before.before (omega arith))

pub added32-mark-requires : goal.added32-mark-requires
added32-mark-requires c h = omega (arith, room c.before.before.before.before (omega arith))

pub added32-threshold-requires : goal.added32-threshold-requires
added32-threshold-requires c h =
    let z = c.before in
    let e = entry-four z.args.v (omega arith) in
    omega (arith, e, z.requires.3)

pub returns : goal.returns
returns c =
    let at_read = c.before in
    let at_Added = at_read.before in
    let z = at_Added.before in
    (λ i. record {
      object = at_read.read16.ensures i;
      asset = c.read16-2.ensures i;
      kind = c.read8.ensures i;
      flags = c.read8-2.ensures i;
      count = c.read32.ensures i;
      timed = c.read32-2.ensures i;
      timer = c.read32-3.ensures i;
      start = c.read32-4.ensures i;
      end = c.read32-5.ensures i;
      interval = c.read32-6.ensures i;
      accumulated = c.read32-7.ensures i;
      tracked = at_Added.added32-tracked.ensures i;
      timedvalue = at_Added.added32-timedvalue.ensures i;
      mark = at_Added.added32-mark.ensures i;
      threshold = at_Added.added32-threshold.ensures i;
    })
    ∙ limits-read z.args.s.now z.args.v z.requires.0 z.requires.1

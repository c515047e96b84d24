-- `image_parse::entry_in` meets its contract: its two parts are those of the same bytes.
use Prim.Native.Nat.{◌≤◌}
use native.Mathlib.Omega.{arith}
use lib.ListN.{length}
use Rattle.model.specs.Image.{entry_in}
use Rattle.image_parse.specs.Versions.{entry-least}
use Rattle.image_parse.proofs.entry_in.Goals as goal
use Rattle.image_parse.proofs.entry_in.Goals.{Start}

-- the fields of every version are there
least : (c : Start) → 51 ≤ length c.args.s.now
least c = let e = entry-least c.args.v c.requires.0 c.requires.1 in omega (arith, e, c.requires.2)

pub limits_in-requires : goal.limits_in-requires
limits_in-requires c = let p = c.requires in (p.0, p.1, least c.before.before, p.2)

pub meters_in-requires : goal.meters_in-requires
meters_in-requires c = let p = c.requires in (p.0, p.1, least c.before.before.before, p.2)

pub returns : goal.returns
unfolding entry_in
returns c =
    λ i. record {
      limits = c.limits_in.ensures i;
      meters = c.meters_in.ensures i;
    }

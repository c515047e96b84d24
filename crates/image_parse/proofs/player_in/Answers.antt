-- `image_parse::player_in` meets its contract: its two parts are those of the same bytes.
use Prim.Native.Nat.{◌+◌, ◌≤◌}
use native.Mathlib.Omega.{arith}
use lib.ListN.{length}
use Rattle.model.specs.Image.{player_in}
use Rattle.image_parse.specs.Versions.{wider, player-least}
use Rattle.image_parse.proofs.player_in.Goals as goal
use Rattle.image_parse.proofs.player_in.Goals.{Start}

-- the fields of every version are there
least : (c : Start) → 24 + wider c.args.v ≤ length c.args.s.now
least c = let e = player-least c.args.v c.requires.0 c.requires.1 in omega (arith, e, c.requires.2)

pub last_in-requires : goal.last_in-requires
last_in-requires c = let p = c.requires in (p.0, p.1, least c.before.before, p.2)

pub open_in-requires : goal.open_in-requires
open_in-requires c = let p = c.requires in (p.0, p.1, least c.before.before.before, p.2)

pub returns : goal.returns
unfolding player_in
returns c =
    λ i. record {
      last = c.last_in.ensures i;
      current = c.open_in.ensures i;
    }

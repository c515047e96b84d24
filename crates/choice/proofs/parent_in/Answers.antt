use Rattle.std.proofs.Common.{◌&&◌}
use Rattle.model.specs.Book.{is_parent}
use Rattle.model.specs.Choice.{holds, asset_named}
use Rattle.choice.specs.Reach.{catalog_from, parent_in, either-zero, named-some, named-none}
use Rattle.choice.proofs.parent_in.Goals as goal

pub returns-then-inherit-eq0 : goal.returns-then-inherit-eq0
unfolding parent_in
returns-then-inherit-eq0 c =
    let k = catalog_from c.args.assets.now in
    let i = c.args.inherit in
    either-zero (holds k i && is_parent (asset_named k i)) i c.if-inherit-eq0.true

pub returns-in-Some : goal.returns-in-Some
unfolding parent_in is_parent
returns-in-Some c =
    let h = named-some c.args.assets.now c.args.inherit c.in-Some.p c.in-Some.ensures in
    rw (h.0, h.1, c.pick.ensures)

pub returns-in-None : goal.returns-in-None
unfolding parent_in
returns-in-None c =
    let h = named-none c.args.assets.now c.args.inherit c.in-None.ensures in
    rw h.0

use Rattle.std.proofs.Common.{◌≡◌, ap}
use Rattle.book.specs.declared.Asset.{Asset}
use Rattle.model.specs.Choice.{usable, asset_named, parent_of}
use Rattle.choice.specs.Reach.{catalog_from, parent_in, reach_in, parent-none, named-some, named-none}
use Rattle.choice.proofs.reach_of.Goals as goal

pub returns-in-Some : goal.returns-in-Some
unfolding reach_in usable parent_of parent_in
returns-in-Some c =
    let h = named-some c.args.assets.now c.args.number c.in-Some.a c.in-Some.ensures in
    rw (h.0, h.1, c.parent_in.ensures)

pub returns-in-None : goal.returns-in-None
unfolding reach_in usable
returns-in-None c =
    let k = catalog_from c.args.assets.now in
    let h = named-none c.args.assets.now c.args.number c.in-None.ensures in
    let none : (asset_named k c.args.number).inherit ≡ 0 = ap (λ (a : Asset). a.inherit) h.1 in
    rw (h.0, ← parent-none k c.args.number none)

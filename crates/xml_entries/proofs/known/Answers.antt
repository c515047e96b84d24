-- `xml_entries::known`: an asset is found among the used ones if the definition finds it below their number.
use mathlib.Core.Path.{◌≡◌, ap, ◌∙◌}
use Prim.Native.Nat.{ℕ, ◌≤◌}
use native.Mathlib.Omega.{arith}
use lib.ListN.{length}
use lib.Dec.{ltb}
use borrow.Author.Rules.{rules}
use Rattle.numbers.proofs.Loops.{length-mapped}
use Rattle.model.specs.Book.{assets_in, asset_position, in_book}
use Rattle.image_limits.proofs.Used.{known_used}
use Rattle.xml_entries.proofs.known.Goals as goal

pub returns : goal.returns
unfolding in_book assets_in
returns c =
    let b = c.args.b in
    let slots : length b.assets ≡ 64 = search length-mapped in
    let n = c.at_most_64 in
    let here = known_used b.assets n.result (omega (arith, slots, n.ensures)) c.args.number in
    rw (c.is_some.ensures, c.asset_position.ensures, here, n.ensures)

-- `xml_entries::next_legal`: the used assets are judged as the definition judges the table.
use mathlib.Core.Path.{◌≡◌, ap, ◌∙◌}
use Prim.Native.Nat.{ℕ, ◌≤◌}
use native.Mathlib.Omega.{arith}
use lib.ListN.{length}
use Rattle.numbers.proofs.Loops.{length-mapped}
use Rattle.model.specs.Book.{assets_in, asset_legal}
use Rattle.image_limits.proofs.Used.{legal_used}
use Rattle.xml_entries.proofs.next_legal.Goals as goal

pub returns : goal.returns
unfolding assets_in
returns c =
    let b = c.args.b in
    let slots : length b.assets ≡ 64 = search length-mapped in
    let n = c.at_most_64-n in
    c.asset_legal.ensures
    ∙ legal_used b.assets n.result (omega (arith, slots, n.ensures)) n.result c.args.a
    ∙ ap (λ (k : ℕ). asset_legal b.assets k k c.args.a) n.ensures

-- `image_limits::assets_legal` meets its contract: each of the used assets is judged.
use mathlib.Core.Path.{◌≡◌, ap, ◌∙◌}
use mathlib.Core.Bool.{Bool}
use Prim.Native.Nat.{ℕ, ◌≤◌}
use native.Mathlib.Omega.{arith}
use lib.ListN.{length, take, get_or}
use Rattle.std.proofs.Common.{rules, tests}
use Rattle.std.proofs.lemmas.Iterator.{YieldsList-from_slice}
use Rattle.std.proofs.lemmas.Iterator.Consumers.{YieldsList-from_enumerate}
use Rattle.std.proofs.lemmas.Iterator.Search.{all_from_yields_List}
use lib.Seq.{length-take-le}
use Rattle.numbers.specs.Count.{all}
use Rattle.numbers.proofs.Loops.{length-mapped}
use Rattle.numbers.proofs.ListLaws.{list_all-enumerated}
use Rattle.book.specs.Blank.{no_asset}
use Rattle.book.specs.declared.Asset.{Asset}
use Rattle.model.specs.Book.{asset_position, assets_in, asset_legal, assets_legal}
use Rattle.image_limits.proofs.Used.{legal_used}
use Rattle.image_limits.proofs.assets_legal.Goals as goal

pub returns : goal.returns
unfolding assets_legal assets_in
returns c =
    let b = c.args.b in
    let n = c.at_most_64.result in
    let slots : length b.assets ≡ 64 = search length-mapped in
    let fits : n ≤ length b.assets = omega (arith, slots, c.at_most_64.ensures) in
    let used = legal_used b.assets n fits in
    all_from_yields_List (λ (p : ℕ × Asset). asset_legal b.assets n p.0 p.1) _ _ c.all.result c.all.ensures.ran
    (YieldsList-from_enumerate (YieldsList-from_slice (take n b.assets) cc) cc)
    (λ x r q k. search (rules, tests, used))
    ∙ list_all-enumerated (asset_legal b.assets n) b.assets no_asset n fits
    ∙ ap (λ (m : ℕ). all (λ i. asset_legal b.assets m i (get_or b.assets i no_asset)) m) c.at_most_64.ensures

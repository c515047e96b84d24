-- `image_limits::entries_legal` meets its contract: each of the used entries is judged.
use mathlib.Core.Path.{◌≡◌, sym, ap, ap₂, ◌∙◌}
use mathlib.Core.Bool.{Bool}
use Prim.Native.Nat.{ℕ, ◌≤◌}
use native.Mathlib.Omega.{arith}
use lib.ListN.{length, take, get_or}
use lib.Dec.{ltb}
use Rattle.std.proofs.Common.{rules, tests}
use Rattle.std.proofs.lemmas.Iterator.{YieldsList-from_slice}
use Rattle.std.proofs.lemmas.Iterator.Search.{all_from_yields_List}
use Rattle.numbers.specs.Count.{all}
use Rattle.numbers.proofs.Loops.{length-mapped}
use Rattle.numbers.proofs.ListLaws.{list_all-all}
use Rattle.book.specs.Blank.{no_entry}
use Rattle.book.specs.declared.Entry.{Entry}
use Rattle.model.specs.Book.{asset_position, in_book, assets_in, entries_in, limits_legal, entries_legal}
use Rattle.image_limits.proofs.Used.{known_used}
use Rattle.image_limits.proofs.entries_legal.Goals as goal

pub returns : goal.returns
unfolding entries_legal in_book assets_in entries_in
returns c =
    let b = c.args.b in
    let m = c.at_most_64.result in
    let n = c.at_most_64-2.result in
    let slots : length b.assets ≡ 64 = search length-mapped in
    let places : length b.entries ≡ 64 = search length-mapped in
    let known = known_used b.assets m (omega (arith, slots, c.at_most_64.ensures)) in
    let judged : Entry → Bool = λ e. limits_legal (ltb (asset_position b.assets m e.limits.asset) m) e.limits in
    all_from_yields_List judged _ _ c.all.result c.all.ensures.ran (YieldsList-from_slice (take n b.entries) cc)
    (λ x r q k. search (rules, tests, known))
    ∙ list_all-all judged b.entries no_entry n (omega (arith, places, c.at_most_64-2.ensures))
    ∙ ap₂ (λ (x y : ℕ). all (λ i. limits_legal (ltb (asset_position b.assets x (get_or b.entries i no_entry).limits.asset) x) (get_or b.entries i no_entry).limits) y) c.at_most_64.ensures c.at_most_64-2.ensures

-- `image_meters::meters_legal` meets its contract: the meters of each of the used entries are judged.
use mathlib.Core.Path.{◌≡◌, ap, ◌∙◌}
use Prim.Native.Nat.{ℕ, ◌≤◌}
use native.Mathlib.Omega.{arith}
use lib.ListN.{length, take, get_or}
use Rattle.std.proofs.Common.{rules, tests}
use Rattle.std.proofs.lemmas.Iterator.{YieldsList-from_slice}
use Rattle.std.proofs.lemmas.Iterator.Consumers.{YieldsList-from_enumerate}
use Rattle.std.proofs.lemmas.Iterator.Search.{all_from_yields_List}
use Rattle.numbers.specs.Count.{all}
use Rattle.numbers.proofs.Loops.{length-mapped}
use Rattle.numbers.proofs.ListLaws.{list_all-enumerated}
use Rattle.book.specs.Blank.{no_entry}
use Rattle.book.specs.declared.Entry.{Entry}
use Rattle.model.specs.Book.{entries_in, entry_meters_legal, meters_legal}
use Rattle.image_meters.proofs.meters_legal.Goals as goal

pub returns : goal.returns
unfolding meters_legal entries_in
returns c =
    let b = c.args.b in
    let n = c.at_most_64.result in
    let places : length b.entries ≡ 64 = search length-mapped in
    all_from_yields_List (λ (p : ℕ × Entry). entry_meters_legal b.time b.players p.0 p.1) _ _ c.all.result c.all.ensures.ran
    (YieldsList-from_enumerate (YieldsList-from_slice (take n b.entries) cc) cc)
    (λ x r q k. search (rules, tests))
    ∙ list_all-enumerated (entry_meters_legal b.time b.players) b.entries no_entry n (omega (arith, places, c.at_most_64.ensures))
    ∙ ap (all (λ i. entry_meters_legal b.time b.players i (get_or b.entries i no_entry))) c.at_most_64.ensures

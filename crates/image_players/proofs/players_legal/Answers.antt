-- `image_players::players_legal` meets its contract: each player is judged with the entry of its open use.
use mathlib.Core.Path.{◌≡◌, sym, ap, ap₂, ◌∙◌}
use mathlib.Core.Bool.{Bool}
use Prim.Native.Nat.{ℕ, ◌≤◌}
use native.Mathlib.Omega.{arith}
use lib.ListN.{length, get_or}
use lib.Seq.{take_all}
use lib.Dec.{ltb}
use Rattle.std.specs.List.{list_all}
use Rattle.std.proofs.Common.{rules, tests}
use Rattle.std.proofs.lemmas.Iterator.{YieldsList-from_slice}
use Rattle.std.proofs.lemmas.Iterator.Search.{all_from_yields_List}
use Rattle.numbers.specs.Count.{all}
use Rattle.numbers.proofs.Loops.{length-mapped}
use Rattle.numbers.proofs.ListLaws.{list_all-all}
use Rattle.book.specs.Blank.{no_player}
use Rattle.book.specs.declared.Player.{Player}
use Rattle.image_limits.proofs.Used.{known_used}
use Rattle.model.specs.Book.{open_entry, player_at, asset_position, in_book, assets_in, entries_in, player_legal, players_legal}
use Rattle.image_players.proofs.players_legal.Goals as goal

pub returns : goal.returns
unfolding players_legal in_book assets_in entries_in
returns c =
    let b = c.args.b in
    let n = c.at_most_64-n.result in
    let m = c.at_most_64.result in
    let slots : length b.assets ≡ 64 = search length-mapped in
    let sixteen : length b.players ≡ 16 = search length-mapped in
    let known = known_used b.assets m (omega (arith, slots, c.at_most_64.ensures)) in
    let judged : ℕ → ℕ → Player → Bool =
    λ x y p. player_legal b.time x (ltb (asset_position b.assets y p.current.content) y) (open_entry b.entries p) p in
    all_from_yields_List (judged n m) _ _ c.all.result c.all.ensures.ran (YieldsList-from_slice b.players cc)
    (λ x r q k. search (rules, tests, known))
    ∙ ap (list_all (judged n m)) (sym (take_all 16 b.players (omega (arith, sixteen))))
    ∙ list_all-all (judged n m) b.players no_player 16 (omega (arith, sixteen))
    ∙ ap₂ (λ (x y : ℕ). all (λ i. judged x y (player_at b.players i)) 16) c.at_most_64-n.ensures c.at_most_64.ensures

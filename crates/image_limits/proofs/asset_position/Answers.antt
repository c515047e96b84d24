-- `image_limits::asset_position` meets its contract: what `position` counts is the definition's position.
use mathlib.Core.Path.{ap, ◌∙◌}
use mathlib.Core.Bool.{cond}
use Prim.Native.Nat.{ℕ}
use lib.ListN.{length}
use lib.Dec.{ltb}
use Rattle.std.specs.Prelude.{Some, None}
use Rattle.std.proofs.Common.{rules, tests}
use Rattle.std.proofs.lemmas.Iterator.{YieldsList-from_slice}
use Rattle.std.proofs.lemmas.Iterator.Search.{position_from_yields_List}
use Rattle.image_limits.proofs.Used.{numbered, counted}
use Rattle.image_limits.proofs.asset_position.Goals as goal

pub returns : goal.returns
returns c =
    let a = c.args in
    let ats = a.assets.now in
    position_from_yields_List (numbered ats a.number) _ _ c.position.result c.position.ensures.ran (YieldsList-from_slice ats cc)
    (λ x b q k. search (rules, tests))
    ∙ ap (λ (k : ℕ). cond (ltb k (length ats)) (Some k) None) (counted ats a.number)

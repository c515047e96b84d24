use Rattle.std.proofs.Common.{◌∙◌, rules, tests}
use Rattle.std.proofs.lemmas.Iterator.{YieldsList-from_slice}
use Rattle.std.proofs.lemmas.Iterator.Search.{any_from_yields_List}
use Rattle.book.specs.declared.Player.{Player}
use Rattle.model.specs.Meters.{expired}
use Rattle.uses.specs.Due.{due-listed}
use Rattle.uses.proofs.any_due.Goals as goal

pub returns : goal.returns
returns c =
    let a = c.args in
    any_from_yields_List (λ (p : Player). expired a.t p.current) _ _ c.any.result c.any.ensures.ran (YieldsList-from_slice a.ps cc)
    (λ x b q k. search (rules, tests))
    ∙ due-listed a.t a.ps (search rules)

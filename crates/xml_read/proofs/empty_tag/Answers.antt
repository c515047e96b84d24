-- `xml_read::empty_tag` meets its contract: the first of the three steps that is a fault is the result.
use mathlib.Core.Path.{◌∙◌}
use Rattle.std.proofs.lemmas.Result.{err_from_is_err_and}
use Rattle.xml_model.specs.State.{counted}
use Rattle.xml_model.proofs.Steps.{refuses}
use Rattle.xml_read.specs.Nesting.{empty_tag}
use Rattle.xml_read.proofs.Nested.{reached-then, reached-refused}
use Rattle.xml_read.proofs.empty_tag.Goals as goal

pub returns-in_err-enter : goal.returns-in_err-enter
unfolding empty_tag
returns-in_err-enter c =
    let p = err_from_is_err_and c.from_residual.result c.from_residual.ensures.1 in
    rw (p.1, p.2) (reached-refused _ _ counted _ _ (refuses _) (reached-refused _ _ _ _ _ (refuses _) c.in_err-enter.ensures))

pub returns-in_err-close : goal.returns-in_err-close
unfolding empty_tag
returns-in_err-close c =
    let p = err_from_is_err_and c.from_residual-in_err-close.result c.from_residual-in_err-close.ensures.1 in
    rw (p.1, p.2) (reached-refused _ _ counted _ _ (refuses _)
    (c.in_err-close.ensures ∙ reached-then _ _ _ _ _ c.in_ok-enter.ensures))

pub returns : goal.returns
unfolding empty_tag
returns c = rw c.count.ensures
    (reached-then _ _ counted _ _ (c.in_ok-close.ensures ∙ reached-then _ _ _ _ _ c.in_ok-enter.ensures))

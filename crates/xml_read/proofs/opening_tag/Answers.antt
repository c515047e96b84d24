-- `xml_read::opening_tag` meets its contract: a fault at the first step is the result.
use Rattle.std.proofs.lemmas.Result.{err_from_is_err_and}
use Rattle.xml_model.specs.State.{counted}
use Rattle.xml_model.proofs.Steps.{refuses}
use Rattle.xml_read.specs.Nesting.{opening_tag}
use Rattle.xml_read.proofs.Nested.{reached-then, reached-refused}
use Rattle.xml_read.proofs.opening_tag.Goals as goal

pub returns-in_err-enter : goal.returns-in_err-enter
unfolding opening_tag
returns-in_err-enter c =
    let p = err_from_is_err_and c.from_residual.result c.from_residual.ensures.1 in
    rw (p.1, p.2) (reached-refused _ _ counted _ _ (refuses _) c.in_err-enter.ensures)

pub returns : goal.returns
unfolding opening_tag
returns c = rw c.count.ensures (reached-then _ _ counted _ _ c.in_ok-enter.ensures)

use mathlib.Core.Path.{sym, ◌∙◌}
use native.Mathlib.Omega.{arith}
use Rattle.xml_model.proofs.Runs.{inside}
use Rattle.xml_scan.proofs.end_tag.Goals as goal

pub overflow_add-result-2 : goal.overflow_add-result-2
overflow_add-result-2 c =
    let a = c.args in
    let w = inside a.s.now c.run_end-g.result 62 (omega arith) (sym c.byte_at.ensures ∙ c.if-byte_at-ne62.false) in
    omega arith

use mathlib.Core.Path.{sym, ◌∙◌}
use native.Mathlib.Omega.{arith}
use Rattle.xml_model.proofs.Runs.{inside}
use Rattle.xml_scan.proofs.equals_at.Goals as goal

pub overflow_add-q : goal.overflow_add-q
overflow_add-q c =
    let a = c.args in
    let w = inside a.s.now a.q 61 (omega arith) (sym c.byte_at.ensures ∙ c.if-byte_at-ne61.false) in
    omega arith

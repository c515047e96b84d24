-- `xml_read::progress_of` meets its contract. A byte that was found stands before the end.
use native.Mathlib.Omega.{arith}
use mathlib.Core.Path.{sym, ◌∙◌}
use Rattle.xml_model.proofs.Runs.{inside}
use Rattle.xml_read.proofs.progress_of.Goals as goal

pub overflow_add-i : goal.overflow_add-i
overflow_add-i c =
    omega (arith, inside c.args.s.now c.run_end-i.result 60 (omega arith) (sym c.byte_at.ensures ∙ c.if-byte_at-ne60.false))

pub overflow_add-result : goal.overflow_add-result
overflow_add-result c = omega (arith, inside c.args.s.now _ 47 (omega arith) (sym c.byte_at-2.ensures ∙ c.if-byte_at-eq47.true))

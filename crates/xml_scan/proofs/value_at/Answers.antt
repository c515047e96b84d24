use native.Mathlib.Omega.{arith}
use Rattle.xml_model.proofs.Runs.{byte_inside, quote-small}
use Rattle.xml_scan.proofs.value_at.Goals as goal

pub overflow_add-v : goal.overflow_add-v
overflow_add-v c =
    let a = c.args in
    let q = c.byte_at-q in
    omega (arith, byte_inside a.s.now a.v (rw q.ensures at (quote-small q.result c.in-Some.ensures.0)))

pub overflow_add-result : goal.overflow_add-result
overflow_add-result c =
    let a = c.args in
    let q = c.byte_at-q in
    omega (arith, byte_inside a.s.now a.v (rw q.ensures at (quote-small q.result c.in-Some.ensures.0)))

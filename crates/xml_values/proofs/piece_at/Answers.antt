-- `xml_values::piece_at` meets its contract, with the piece there, with another letter behind the digits, with no digits.
use mathlib.Core.Path.{sym, ◌∙◌}
use native.Mathlib.Omega.{arith}
use borrow.Author.Tests.{eq-eqb, ne_eqb, lt-ltb, le-ltb}
use Rattle.xml_model.specs.Bytes.{digits}
use Rattle.xml_model.specs.Values.{piece_at}
use Rattle.xml_model.proofs.Runs.{inside}
use Rattle.xml_values.specs.Saturated.{saturated}
use Rattle.xml_values.proofs.Numbers.{run_inside}
use Rattle.xml_values.proofs.piece_at.Goals as goal

pub overflow_add-result : goal.overflow_add-result
overflow_add-result c =
    let b = c.before in
    let s = b.before in
    omega (
      arith,
      inside s.args.v.now b.run_end-e.result s.args.u s.ranges.u.fits
          (sym b.byte_at-c.ensures ∙ c.if-c-u.true),
    )

pub slice_bounds-number_of-end : goal.slice_bounds-number_of-end
slice_bounds-number_of-end c =
    let e = c.run_end-e in
    let a = c.args in
    rw e.ensures (run_inside digits a.v.now a.i (rw e.ensures at c.if-i-e.true))

pub returns-then-c-u-clause-value : goal.returns-then-c-u-clause-value
unfolding piece_at saturated
returns-then-c-u-clause-value c = rw (
  c.number_of.ensures,
  ← c.run_end-e.ensures,
  ← c.byte_at-c.ensures,
  lt-ltb _ _ c.if-i-e.true,
  eq-eqb _ _ c.if-c-u.true,
)

pub returns-then-c-u-clause-number_le_ceiling : goal.returns-then-c-u-clause-number_le_ceiling
returns-then-c-u-clause-number_le_ceiling c = (
  omega (arith, c.number_of.ensures),
  omega (
    arith,
    inside c.args.v.now c.run_end-e.result c.args.u c.ranges.u.fits (sym c.byte_at-c.ensures ∙ c.if-c-u.true),
  ),
)

pub returns-else-c-u-clause-value : goal.returns-else-c-u-clause-value
unfolding piece_at saturated
returns-else-c-u-clause-value c = rw (← c.run_end-e.ensures, ← c.byte_at-c.ensures, lt-ltb _ _ c.if-i-e.true, ne_eqb _ _ c.if-c-u.false)

pub returns-else-c-u-clause-number_le_ceiling : goal.returns-else-c-u-clause-number_le_ceiling
returns-else-c-u-clause-number_le_ceiling c = (omega arith, omega arith)

pub returns-else-i-e-clause-value : goal.returns-else-i-e-clause-value
unfolding piece_at saturated
returns-else-i-e-clause-value c = rw (← c.run_end-e.ensures, ← c.byte_at-c.ensures, le-ltb _ _ c.if-i-e.false)

pub returns-else-i-e-clause-number_le_ceiling : goal.returns-else-i-e-clause-number_le_ceiling
returns-else-i-e-clause-number_le_ceiling c = (omega arith, omega arith)

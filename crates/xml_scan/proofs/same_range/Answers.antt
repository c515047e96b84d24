use mathlib.Core.Path.{◌≡◌, sym, ap, ◌∙◌}
use native.Mathlib.Omega.{arith}
use borrow.Author.Tests.{eq-eqb, ne_eqb}
use Rattle.xml_model.specs.State.{alike, same_range}
use Rattle.xml_scan.specs.Ranges.{alike-none, alike-on, alike-off}
use Rattle.xml_scan.proofs.same_range.Goals as goal

pub returns-then-n-saturating_sub : goal.returns-then-n-saturating_sub
unfolding same_range
returns-then-n-saturating_sub c =
    rw (← c.saturating_sub-n.ensures, ← c.saturating_sub.ensures, ne_eqb _ _ c.if-n-saturating_sub.true)

pub loop-i-init : goal.loop-i-init
loop-i-init c = alike-none _ _ _

pub overflow_add-a : goal.overflow_add-a
overflow_add-a c = omega (arith, c.saturating_sub-n.ensures)

pub overflow_add-x : goal.overflow_add-x
overflow_add-x c =
    omega (arith, c.saturating_sub.ensures, c.if-n-saturating_sub.false)

pub returns-then-byte_at : goal.returns-then-byte_at
unfolding same_range
returns-then-byte_at c =
    let l = c.loop-i in
    rw (
      ← c.saturating_sub-n.ensures,
      ← c.saturating_sub.ensures,
      eq-eqb _ _ c.if-n-saturating_sub.false,
    )
    (sym
    (alike-off _ _ _ l.i _ c.loop-i-test.true
    (rw (c.byte_at.ensures, c.byte_at-in-loop-i.ensures) at c.if-byte_at.true)))

pub loop-i-preserved : goal.loop-i-preserved
loop-i-preserved c =
    let l = c.loop-i in
    alike-on _ _ _ l.i l.invariant (rw (c.byte_at.ensures, c.byte_at-in-loop-i.ensures) at c.if-byte_at.false)

pub returns : goal.returns
unfolding same_range
returns c =
    let l = c.loop-i in
    let e : l.i ≡ c.saturating_sub-n.result = omega arith in
    rw (
      ← c.saturating_sub-n.ensures,
      ← c.saturating_sub.ensures,
      eq-eqb _ _ c.if-n-saturating_sub.false,
    )
    (sym (ap (alike _ _ _) (sym e) ∙ l.invariant))

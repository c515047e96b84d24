use mathlib.Core.Path.{◌≡◌, refl, sym, ap, subst, ◌∙◌}
use mathlib.Core.Bool.{true, false}
use Rattle.std.specs.Prelude.{ℕ, ◌+◌}
use native.Mathlib.Omega.{arith}
use Rattle.xml_model.specs.Bytes.{part, same}
use Rattle.xml_model.specs.declared.Range.{Range}
use Rattle.xml_model.specs.Tags.{attribute_at, look}
use Rattle.xml_model.specs.Shapes.{Attribute}
use Rattle.xml_model.proofs.Runs.{same_slices}
use Rattle.xml_model.proofs.Units.{look-stuck, look-here, look-on}
use Rattle.xml_scan.specs.Attributes.{held-as, fault-code}
use Rattle.xml_scan.proofs.look.Goals as goal

ranged : ℕ → ℕ → Range
ranged f t = record { from = f; to = t }

pub loop-a-init : goal.loop-a-init
loop-a-init c = refl

pub returns-in_default : goal.returns-in_default
returns-in_default c =
    let a = c.args in
    let l = c.loop-a in
    let g = c.run_end-i.ensures in
    let n = fault-code _ _ _ (rw g at c.in_default.ensures) in
    l.invariant ∙ look-stuck a.s.now a.name.now l.j n

pub slice_bounds-eq-count : goal.slice_bounds-eq-count
slice_bounds-eq-count c =
    let a = c.args in
    let g = c.run_end-i.ensures in
    let x = c.in-Ok.ensures in
    let w = held-as a.s.now _ _ _ g x refl in
    omega (arith, w.named)

pub slice_bounds-eq-start : goal.slice_bounds-eq-start
slice_bounds-eq-start c =
    let a = c.args in
    let g = c.run_end-i.ensures in
    let x = c.in-Ok.ensures in
    let w = held-as a.s.now _ _ _ g x refl in
    omega (arith, w.named, w.ended)

pub slice_bounds-eq-end : goal.slice_bounds-eq-end
slice_bounds-eq-end c =
    let a = c.args in
    let g = c.run_end-i.ensures in
    let x = c.in-Ok.ensures in
    let w = held-as a.s.now _ _ _ g x refl in
    omega (arith, w.ended)

pub returns-then-eq : goal.returns-then-eq
unfolding ranged
returns-then-eq c =
    let a = c.args in
    let l = c.loop-a in
    let x = c.in-Ok.ensures in
    let e = x ∙ ap (attribute_at a.s.now) c.run_end-i.ensures in
    let o = ap (λ (y : Attribute). y.code) (sym e) in
    let n = subst (λ (y : Attribute). same a.name.now (part a.s.now y.name y.end) ≡ true) e (sym (c.eq.ensures ∙ same_slices _ _) ∙ c.if-eq.true) in
    let w = held-as a.s.now _ _ _ c.run_end-i.ensures x refl in (
      l.invariant ∙ look-here a.s.now a.name.now l.j o n ∙ ap (λ (y : Attribute). ranged y.from y.to) (sym e),
      w.filled,
    )

pub overflow_add-j : goal.overflow_add-j
overflow_add-j c =
    let a = c.args in
    let g = c.run_end-i.ensures in
    let x = c.in-Ok.ensures in
    let w = held-as a.s.now _ _ _ g x refl in
    omega (arith, w.to)

pub loop-a-smaller : goal.loop-a-smaller
loop-a-smaller c =
    let a = c.args in
    let g = c.run_end-i.ensures in
    let x = c.in-Ok.ensures in
    let w = held-as a.s.now _ _ _ g x refl in
    omega (arith, w.to, w.moved)

pub loop-a-preserved : goal.loop-a-preserved
loop-a-preserved c =
    let a = c.args in
    let l = c.loop-a in
    let x = c.in-Ok.ensures in
    let e = x ∙ ap (attribute_at a.s.now) c.run_end-i.ensures in
    let o = ap (λ (y : Attribute). y.code) (sym e) in
    let n = subst (λ (y : Attribute). same a.name.now (part a.s.now y.name y.end) ≡ false) e (sym (c.eq.ensures ∙ same_slices _ _) ∙ c.if-eq.false) in
    l.invariant ∙ look-on a.s.now a.name.now l.j o n ∙ ap (λ (y : Attribute). look a.s.now a.name.now (y.to + 1)) (sym e)

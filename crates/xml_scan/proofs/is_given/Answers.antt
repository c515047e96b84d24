use mathlib.Core.Path.{◌≡◌, refl, sym, ap, subst, ◌∙◌}
use mathlib.Core.Bool.{true, false}
use Rattle.std.specs.Prelude.{◌+◌}
use native.Mathlib.Omega.{arith}
use Rattle.xml_model.specs.Bytes.{part, same}
use Rattle.xml_model.specs.Tags.{attribute_at, given}
use Rattle.xml_model.specs.Shapes.{Attribute}
use Rattle.xml_model.proofs.Runs.{same_slices}
use Rattle.xml_model.proofs.Units.{given_out, given-stuck, given-here, given-on}
use Rattle.xml_scan.specs.Attributes.{held-as, fault-code}
use Rattle.xml_scan.proofs.is_given.Goals as goal

pub loop-j-init : goal.loop-j-init
loop-j-init c = refl

pub returns-in_default : goal.returns-in_default
returns-in_default c =
    let a = c.args in
    let l = c.loop-j in
    let g = c.run_end-i.ensures in
    let n = fault-code _ _ _ (rw g at c.in_default.ensures) in
    sym (l.invariant ∙ given-stuck a.s.now a.p _ l.j c.loop-j-test.true n)

pub slice_bounds-eq-count-in-loop-j : goal.slice_bounds-eq-count-in-loop-j
slice_bounds-eq-count-in-loop-j c =
    let a = c.args in
    let g = c.run_end-i.ensures in
    let x = c.in-Ok.ensures in
    let w = held-as a.s.now _ _ _ g x refl in
    omega (arith, w.named)

pub slice_bounds-eq-start-in-loop-j : goal.slice_bounds-eq-start-in-loop-j
slice_bounds-eq-start-in-loop-j c =
    let a = c.args in
    let g = c.run_end-i.ensures in
    let x = c.in-Ok.ensures in
    let w = held-as a.s.now _ _ _ g x refl in
    omega (arith, w.named, w.ended)

pub slice_bounds-eq-end-in-loop-j : goal.slice_bounds-eq-end-in-loop-j
slice_bounds-eq-end-in-loop-j c =
    let a = c.args in
    let g = c.run_end-i.ensures in
    let x = c.in-Ok.ensures in
    let w = held-as a.s.now _ _ _ g x refl in
    omega (arith, w.ended)

pub returns-then-eq : goal.returns-then-eq
returns-then-eq c =
    let a = c.args in
    let l = c.loop-j in
    let x = c.in-Ok.ensures in
    let e = x ∙ ap (attribute_at a.s.now) c.run_end-i.ensures in
    let t = c.loop-j-test.true in
    let o = ap (λ (y : Attribute). y.code) (sym e) in
    let n = subst (λ (y : Attribute). same (part a.s.now a.n a.e) (part a.s.now y.name y.end) ≡ true) e (sym (c.eq.ensures ∙ same_slices _ _) ∙ c.if-eq.true) in
    sym (l.invariant ∙ given-here a.s.now a.p _ l.j t o n)

pub overflow_add-j : goal.overflow_add-j
overflow_add-j c =
    let a = c.args in
    let g = c.run_end-i.ensures in
    let x = c.in-Ok.ensures in
    let w = held-as a.s.now _ _ _ g x refl in
    omega (arith, w.to)

pub loop-j-smaller : goal.loop-j-smaller
loop-j-smaller c =
    let a = c.args in
    let g = c.run_end-i.ensures in
    let x = c.in-Ok.ensures in
    let w = held-as a.s.now _ _ _ g x refl in
    omega (arith, w.to, w.moved)

pub loop-j-preserved : goal.loop-j-preserved
loop-j-preserved c =
    let a = c.args in
    let l = c.loop-j in
    let x = c.in-Ok.ensures in
    let e = x ∙ ap (attribute_at a.s.now) c.run_end-i.ensures in
    let t = c.loop-j-test.true in
    let o = ap (λ (y : Attribute). y.code) (sym e) in
    let n = subst (λ (y : Attribute). same (part a.s.now a.n a.e) (part a.s.now y.name y.end) ≡ false) e (sym (c.eq.ensures ∙ same_slices _ _) ∙ c.if-eq.false) in
    l.invariant ∙ given-on a.s.now a.p _ l.j t o n ∙ ap (λ (y : Attribute). given a.s.now a.p (part a.s.now a.n a.e) (y.to + 1)) (sym e)

pub returns : goal.returns
returns c =
    let a = c.args in
    let l = c.loop-j in
    sym (l.invariant ∙ given_out a.s.now a.p _ l.j c.loop-j-test.false)

use mathlib.Core.Path.{◌≡◌, refl, sym, ap, subst, ◌∙◌}
use mathlib.Core.Bool.{true, false}
use Rattle.std.specs.Prelude.{◌+◌}
use Rattle.std.proofs.lemmas.Result.{err_from_is_err_and}
use native.Mathlib.Omega.{arith}
use Rattle.xml_model.specs.Codes.{IsFault}
use Rattle.xml_model.specs.Bytes.{byte_at, part}
use Rattle.xml_model.specs.Shapes.{Attribute}
use Rattle.xml_model.specs.Tags.{attribute_at, given, tailed}
use Rattle.xml_model.proofs.Runs.{inside}
use Rattle.xml_model.proofs.Units.{rest, rest-first, rest-open, rest-empty, rest-tight, rest-stuck, rest-twice, rest-on}
use Rattle.xml_scan.specs.Attributes.{held-as, fault-code}
use Rattle.xml_scan.proofs.tail_of.Goals as goal

pub loop-first-init : goal.loop-first-init
loop-first-init c = rest-first _ _

pub overflow_add-result : goal.overflow_add-result
overflow_add-result c =
    let a = c.args in
    let b = sym c.byte_at-b.ensures ∙ c.if-b-eq62.true in
    omega (arith, inside a.s.now c.run_end-g.result 62 (omega arith) b)

pub returns-then-b-eq62 : goal.returns-then-b-eq62
unfolding tailed
returns-then-b-eq62 c =
    let a = c.args in
    let l = c.loop-first in
    let g = c.run_end-g.ensures in
    let b = c.byte_at-b.ensures ∙ ap (byte_at a.s.now) g in
    sym (l.invariant ∙ rest-open a.s.now a.first l.j (rw b at c.if-b-eq62.true) ∙ rw g)

pub empty_tail-requires : goal.empty_tail-requires
empty_tail-requires c =
    let a = c.args in
    let b = sym c.byte_at-b.ensures ∙ c.if-b-eq47.true in
    inside a.s.now c.run_end-g.result 47 (omega arith) b

pub returns-then-b-eq47 : goal.returns-then-b-eq47
returns-then-b-eq47 c =
    let a = c.args in
    let l = c.loop-first in
    let g = c.run_end-g.ensures in
    let b = c.byte_at-b.ensures ∙ ap (byte_at a.s.now) g in
    let t = rw b at c.if-b-eq62.false in
    rw (l.invariant, rest-empty a.s.now a.first l.j t (rw b at c.if-b-eq47.true), ← g) c.empty_tail.ensures

pub returns-then-g-j : goal.returns-then-g-j
unfolding tailed
returns-then-g-j c =
    let a = c.args in
    let l = c.loop-first in
    let g = c.run_end-g.ensures in
    let b = c.byte_at-b.ensures ∙ ap (byte_at a.s.now) g in
    let t = rw b at c.if-b-eq62.false in
    let u = rw b at c.if-b-eq47.false in
    rw (l.invariant, rest-tight a.s.now a.first l.j t u (rw g at c.if-g-j.true), ← g) c.stuck.ensures

pub returns-in_err-a : goal.returns-in_err-a
unfolding tailed
returns-in_err-a c =
    let a = c.args in
    let l = c.loop-first in
    let g = c.run_end-g.ensures in
    let b = c.byte_at-b.ensures ∙ ap (byte_at a.s.now) g in
    let t = rw b at c.if-b-eq62.false in
    let u = rw b at c.if-b-eq47.false in
    let v = rw g at c.if-g-j.false in
    let k : IsFault _ _ _ = rw g at c.in_err-a.ensures in
    let p = err_from_is_err_and c.from_residual.result c.from_residual.ensures.1 in
    rw (p.1, p.2, l.invariant, rest-stuck a.s.now a.first l.j t u v (fault-code _ _ _ k)) k

pub overflow_add-next : goal.overflow_add-next
overflow_add-next c =
    let a = c.args in
    let g = c.run_end-g.ensures in
    let w = held-as a.s.now _ _ _ g c.in_ok-a.ensures refl in
    omega (arith, w.to)

pub is_given-requires : goal.is_given-requires
is_given-requires c =
    let a = c.args in
    let g = c.run_end-g.ensures in
    let w = held-as a.s.now _ _ _ g c.in_ok-a.ensures refl in
    (w.named, w.ended)

pub returns-then-is_given : goal.returns-then-is_given
unfolding tailed
returns-then-is_given c =
    let a = c.args in
    let l = c.loop-first in
    let g = c.run_end-g.ensures in
    let b = c.byte_at-b.ensures ∙ ap (byte_at a.s.now) g in
    let e = c.in_ok-a.ensures ∙ ap (attribute_at a.s.now) g in
    let t = rw b at c.if-b-eq62.false in
    let u = rw b at c.if-b-eq47.false in
    let v = rw g at c.if-g-j.false in
    let o = ap (λ (y : Attribute). y.code) (sym e) in
    let n = subst (λ (y : Attribute). given a.s.now l.j (part a.s.now y.name y.end) a.first ≡ true) e (sym c.is_given.ensures ∙ c.if-is_given.true) in
    rw (l.invariant, rest-twice a.s.now a.first l.j t u v o n) (refl, ap (λ (y : Attribute). y.to + 1) e)

pub loop-first-smaller : goal.loop-first-smaller
loop-first-smaller c =
    let a = c.args in
    let g = c.run_end-g.ensures in
    let w = held-as a.s.now _ _ _ g c.in_ok-a.ensures refl in
    omega (arith, w.to, w.moved)

pub loop-first-preserved : goal.loop-first-preserved
loop-first-preserved c =
    let a = c.args in
    let l = c.loop-first in
    let g = c.run_end-g.ensures in
    let b = c.byte_at-b.ensures ∙ ap (byte_at a.s.now) g in
    let e = c.in_ok-a.ensures ∙ ap (attribute_at a.s.now) g in
    let t = rw b at c.if-b-eq62.false in
    let u = rw b at c.if-b-eq47.false in
    let v = rw g at c.if-g-j.false in
    let o = ap (λ (y : Attribute). y.code) (sym e) in
    let n = subst (λ (y : Attribute). given a.s.now l.j (part a.s.now y.name y.end) a.first ≡ false) e (sym c.is_given.ensures ∙ c.if-is_given.false) in
    l.invariant ∙ rest-on a.s.now a.first l.j t u v o n ∙ ap (λ (y : Attribute). rest a.s.now a.first (y.to + 1)) (sym e)

use mathlib.Core.Path.{refl, sym, ◌∙◌}
use native.Mathlib.Omega.{arith}
use Rattle.std.proofs.lemmas.Result.{err_from_is_err_and}
use Rattle.xml_model.proofs.Steps.{refuses}
use Rattle.xml_scan.specs.Attributes.{fault-code}
use Rattle.xml_read.proofs.Forms.{is_open, not_open, is_end, not_end}
use Rattle.xml_read.proofs.Nested.{not-refused, lies_at, el-deep, el-empty, el-refused, el-inside, co-stuck, co-ended}
use Rattle.xml_read.proofs.Nested.{co-none, co-fault, co-child, co-less}
use Rattle.xml_read.proofs.+contents_element.Goals as goal

pub element-returns-then-left-eq0 : goal.element-returns-then-left-eq0
element-returns-then-left-eq0 t c = el-deep c.if-left-eq0.true

pub element-returns-then-ne : goal.element-returns-then-ne
element-returns-then-ne t c = rw c.empty_tag.ensures
    (el-empty c.if-left-eq0.false c.requires (not_open c.args.t.form (sym c.ne.ensures ∙ c.if-ne.true)))

pub element-returns-in_err-inside : goal.element-returns-in_err-inside
element-returns-in_err-inside t c =
    let p = err_from_is_err_and c.from_residual.result c.from_residual.ensures.1 in
    rw (p.1, p.2) (el-refused c.if-left-eq0.false (is_open c.args.t.form (sym c.ne.ensures ∙ c.if-ne.false)) refl _ _
    (refuses _) c.in_err-inside.ensures)

pub element-returns : goal.element-returns
element-returns t c = el-inside c.if-left-eq0.false (is_open c.args.t.form (sym c.ne.ensures ∙ c.if-ne.false)) refl _ _
    c.in_ok-inside.ensures c.contents.ensures

pub contents-returns-in_err-t : goal.contents-returns-in_err-t
contents-returns-in_err-t t c =
    let p = err_from_is_err_and c.from_residual.result c.from_residual.ensures.1 in
    let w = c.in_err-t.ensures in
    rw (p.1, p.2, w.0, w.1) (co-stuck c.loop-t.invariant refl (fault-code _ _ _ w))

pub contents-returns-then-eq : goal.contents-returns-then-eq
contents-returns-then-eq t c = rw c.end_tag.ensures
    (co-ended c.loop-t.invariant c.in_ok-t.ensures refl (is_end c.in_ok-t.t.form (sym c.eq.ensures ∙ c.if-eq.true)))

pub contents-child_at-requires : goal.contents-child_at-requires
contents-child_at-requires t c = let w = lies_at _ _ c.in_ok-t.ensures refl in (w.named, omega arith)

pub contents-returns-in_default : goal.contents-returns-in_default
contents-returns-in_default t c =
    co-none c.loop-t.invariant c.in_ok-t.ensures refl (not_end c.in_ok-t.t.form (sym c.eq.ensures ∙ c.if-eq.false)) refl c.in_default.ensures

pub contents-element-requires : goal.contents-element-requires
contents-element-requires t c =
    (omega (arith, c.decreases), (lies_at _ _ c.in_ok-t.ensures refl).next)

pub contents-returns-in_err-here : goal.contents-returns-in_err-here
contents-returns-in_err-here t c =
    let p = err_from_is_err_and c.from_residual-in_err-here.result c.from_residual-in_err-here.ensures.1 in
    rw (p.1, p.2) (co-fault c.loop-t.invariant c.in_ok-t.ensures refl (not_end c.in_ok-t.t.form (sym c.eq.ensures ∙ c.if-eq.false))
    (sym c.in-Some.ensures) refl c.in_err-here.ensures (not-refused _ _ (refuses _)))

pub contents-loop-t-smaller : goal.contents-loop-t-smaller
contents-loop-t-smaller t c =
    co-less c.loop-t.invariant c.in_ok-t.ensures refl (not_end c.in_ok-t.t.form (sym c.eq.ensures ∙ c.if-eq.false)) (sym c.in-Some.ensures)
    refl c.in_ok-here.ensures refl

pub contents-loop-t-preserved : goal.contents-loop-t-preserved
contents-loop-t-preserved t c =
    co-child c.loop-t.invariant c.in_ok-t.ensures refl (not_end c.in_ok-t.t.form (sym c.eq.ensures ∙ c.if-eq.false)) (sym c.in-Some.ensures)
    refl c.in_ok-here.ensures refl

use mathlib.Core.Path.{refl, sym, ◌∙◌}
use native.Mathlib.Omega.{arith}
use Rattle.xml_model.specs.Values.{number_of}
use Rattle.xml_values.proofs.Numbers.{number-turn, number-end}
use Rattle.xml_values.proofs.number_of.Goals as goal

pub loop-c-init : goal.loop-c-init
unfolding number_of
loop-c-init c = (omega arith, refl)

pub with_digit-x-requires : goal.with_digit-x-requires
with_digit-x-requires c =
    let l = c.loop-c in
    (l.invariant.0, omega (arith, c.digit_of.ensures, c.type_inv.v l.c-index))

pub loop-c-preserved : goal.loop-c-preserved
loop-c-preserved c =
    let l = c.loop-c in
    let v = c.args.v.now in (
      omega (arith, c.with_digit-x.ensures),
      l.invariant.1 ∙ number-turn l.x v l.c-index (omega arith) ∙ rw (c.with_digit-x.ensures, c.digit_of.ensures),
    )

pub returns : goal.returns
returns c =
    let l = c.loop-c in
    let v = c.args.v.now in
    sym (l.invariant.1 ∙ rw (number-end l.x v l.c-index c.loop-c-test.false) (omega (arith, l.invariant.0)))

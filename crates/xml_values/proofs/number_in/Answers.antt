-- `xml_values::number_in` meets its contract: saturation changes no number within a bound of 32 bits.
use mathlib.Core.Path.{ap, ◌∙◌}
use Prim.Native.Nat.{◌≤◌}
use mathlib.Core.Bool.{Bool, ◌&&◌}
use native.Mathlib.Omega.{arith}
use lib.Dec.{leb}
use borrow.Author.Tests.{leb-true}
use Rattle.numbers.proofs.Tests.{and_right}
use Rattle.model.specs.Book.{between}
use Rattle.xml_model.specs.Values.{value_if, number_of, is_number, number_in}
use Rattle.xml_values.proofs.Numbers.{same-value}
use Rattle.xml_values.proofs.number_in.Goals as goal

pub value_if-requires : goal.value_if-requires
value_if-requires c = λ h.
    let a = c.args in
    let n = c.number_of-n.result in
    omega (arith, leb-true n a.most (and_right (leb a.least n) (leb n a.most) (and_right c.is_number.result _ h)))

pub returns : goal.returns
unfolding number_in
returns c =
    let a = c.args in
    let n = c.number_of-n in
    c.value_if.ensures
    ∙ ap (λ (w : Bool). value_if (w && between a.least a.most n.result) n.result) c.is_number.ensures
    ∙ same-value (is_number a.v.now) (between a.least a.most) n.result (number_of a.v.now)
    (λ h. let u : n.result ≤ a.most = leb-true _ _ (and_right (leb a.least n.result) _ h) in omega (arith, n.ensures))
    (λ h.
    let u : number_of a.v.now ≤ a.most = leb-true _ _ (and_right (leb a.least (number_of a.v.now)) _ h) in
    omega (arith, n.ensures))

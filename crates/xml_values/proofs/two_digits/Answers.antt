-- `xml_values::two_digits` meets its contract: two digits are less than 100.
use native.Mathlib.Omega.{arith}
use Rattle.xml_values.proofs.Numbers.{grown, number_small, digits-inside}
use Rattle.xml_values.proofs.two_digits.Goals as goal

pub overflow_add-e : goal.overflow_add-e
overflow_add-e c = omega (arith, digits-inside c.args.v.now c.args.i 2 (omega arith) c.requires)

pub slice_bounds-number_of-end : goal.slice_bounds-number_of-end
slice_bounds-number_of-end c = digits-inside c.args.v.now c.args.i 2 (omega arith) c.requires

pub overflow_cast-result : goal.overflow_cast-result
unfolding grown
overflow_cast-result c =
    let s = c.before in
    omega (arith, c.number_of.ensures, number_small s.args.v.now s.args.i 2 s.requires)

pub returns : goal.returns
unfolding grown
returns c =
    let s = c.before in
    omega (arith, c.number_of.ensures, number_small s.args.v.now s.args.i 2 s.requires)

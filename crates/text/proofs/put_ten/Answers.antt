-- `text::put_ten` meets its contract: five pairs of digits, written one after another.
use native.Mathlib.Omega.{arith}
use Rattle.text.specs.Digits.{ten-laid}
use Rattle.text.proofs.put_ten.Goals as goal

pub returns : goal.returns
returns c =
    let a = c.args in
    rw (
      c.put_two-5.ensures,
      c.put_two-4.ensures,
      c.put_two-3.ensures,
      c.put_two-2.ensures,
      c.put_two.ensures,
    )
    (ten-laid a.out.now a.at a.n (omega arith) (omega arith) (omega arith))

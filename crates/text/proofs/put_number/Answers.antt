use Prim.Native.Nat.{ℕ, ◌+◌, ◌-◌, ◌%◌}
use mathlib.Core.Path.{◌≡◌, refl, ap, ◌∙◌}
use native.Mathlib.Nat.{add-zero}
use native.Mathlib.Omega.{arith}
use lib.ListN.{length-set}
use Rattle.numbers.specs.Buffer.{lay}
use Rattle.text.specs.Digits.{places-more, digits-start, digits-laid}
use Rattle.text.proofs.put_number.Goals as goal

pub put_ten-requires : goal.put_ten-requires
put_ten-requires c =
    let n = c.args.n in
    let k = places-more 9 n (omega arith) (omega arith) (omega arith) in
    (omega arith, omega arith)

pub overflow_add-result : goal.overflow_add-result
overflow_add-result c =
    let n = c.args.n in
    let k = places-more 9 n (omega arith) (omega arith) (omega arith) in
    omega arith

pub returns-then-n-ge1000000000 : goal.returns-then-n-ge1000000000
returns-then-n-ge1000000000 c =
    let n = c.args.n in
    let k = places-more 9 n (omega arith) (omega arith) (omega arith) in
    (omega arith, c.put_ten.ensures)

pub places-count-requires : goal.places-count-requires
places-count-requires c = tt

pub loop-i-init : goal.loop-i-init
loop-i-init c =
    let a = c.args in
    let s = digits-start a.n a.out.now a.at c.places-count.result (omega arith) c.places-count.ensures in
    let e : c.places-count.result - 0 ≡ c.places-count.result = omega arith in
    rw e (refl, s.0, s.1)

pub loop-i-preserved : goal.loop-i-preserved
loop-i-preserved c =
    let a = c.args in
    let l = c.loop-i in
    let count = c.places-count.result in
    let left = count - (l.i + 1) in
    let k : count - l.i ≡ left + 1 = omega arith in
    let e : count - 1 - l.i ≡ left = omega arith in
    let t = digits-laid a.n a.out.now l.out a.at left l.rest (omega arith) (omega arith) (rw k at l.invariant.1)
    (rw k at l.invariant.2) in
    rw e (length-set l.out (a.at + left) (48 + l.rest % 10) ∙ l.invariant.0, t.0, t.1)

pub returns : goal.returns
returns c =
    let l = c.loop-i in
    let z : c.places-count.result - l.i ≡ 0 = omega arith in (
      ap (λ (k : ℕ). c.args.at + k) c.places-count.ensures,
      l.invariant.2 ∙ rw (z, add-zero) refl,
    )

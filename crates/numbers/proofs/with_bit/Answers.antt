use Rattle.std.proofs.Common.{◌≡◌, ℕ, ◌+◌, ◌-◌, ◌/◌, ◌%◌, ◌^◌, sym, ap, ap₂, ◌∙◌, arith, Bool, cond}
use lib.Dec.{eqb}
use Rattle.numbers.specs.Bits.{bit, put_bit}
use Rattle.numbers.proofs.BitLaws.{spliced, bit-weighs, put-fits, put-none, put_is}
use Rattle.numbers.proofs.with_bit.Goals as goal

pub returns-then-k-ge16 : goal.returns-then-k-ge16
returns-then-k-ge16 c = sym (put-none c.args.p c.args.m c.args.on (omega arith))

-- what is taken off, with the weight as the power that it is
taken : (p m w r : ℕ) → w ≡ 2 ^ p → r ≡ cond (eqb (m / w % 2) 1) w 0 → r ≡ cond (bit p m) (2 ^ p) 0
unfolding bit
taken p m w r e h = h ∙ ap (λ (k : ℕ). cond (eqb (m / k % 2) 1) k 0) e

pub overflow_sub-rest : goal.overflow_sub-rest
overflow_sub-rest c =
    let a = c.args in
    let e = taken a.p (a.m % 65536) c.weight-w.result c.pick.result c.weight-w.ensures c.pick.ensures in
    omega (arith, e, bit-weighs a.p (a.m % 65536))

-- the sum is the definition's
same : (p m w r s : ℕ) (on : Bool) → w ≡ 2 ^ p → r ≡ cond (bit p m) (2 ^ p) 0 → s ≡ cond on w 0 → m - r + s ≡ spliced p on m
same p m w r s on e f g = ap₂ (λ (x y : ℕ). m - x + y) f (g ∙ ap (λ (k : ℕ). cond on k 0) e)

pub returns : goal.returns
returns c =
    let a = c.args in
    let w = c.weight-w in
    let e = taken a.p (a.m % 65536) w.result c.pick.result w.ensures c.pick.ensures in
    same a.p (a.m % 65536) w.result c.pick.result c.pick-2.result a.on w.ensures e c.pick-2.ensures
    ∙ sym (put_is a.p a.m a.on (omega arith))

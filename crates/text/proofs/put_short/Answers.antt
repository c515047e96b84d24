use Prim.Native.Nat.{◌+◌, ◌%◌}
use mathlib.Core.Path.{◌≡◌, ap, ◌∙◌}
use native.Mathlib.Omega.{arith}
use lib.ListN.{length-set}
use Rattle.numbers.specs.Buffer.{lay}
use Rattle.text.specs.Digits.{places-one, places-more, one-laid, two_digits, three-laid}
use Rattle.text.proofs.put_short.Goals as goal

pub bounds-out-at : goal.bounds-out-at
bounds-out-at c = omega (arith, places-one c.args.n c.if-n-lt10.true)

pub returns-then-n-lt10 : goal.returns-then-n-lt10
returns-then-n-lt10 c =
    let a = c.args in
    let p = places-one a.n c.if-n-lt10.true in
    (omega arith, one-laid a.out.now a.at a.n c.if-n-lt10.true (omega arith))

pub put_two-requires : goal.put_two-requires
put_two-requires c =
    let p = places-more 1 c.args.n (omega arith) (omega arith) (omega arith) in
    (omega arith, omega arith)

pub returns-then-n-lt100 : goal.returns-then-n-lt100
returns-then-n-lt100 c =
    let a = c.args in
    let p = places-more 1 a.n (omega arith) (omega arith) (omega arith) in
    (omega arith, c.put_two.ensures ∙ ap (lay a.out.now a.at) (two_digits a.n (omega arith) (omega arith)))

pub bounds-out-at-2 : goal.bounds-out-at-2
bounds-out-at-2 c = omega (arith, places-more 2 c.args.n (omega arith) (omega arith) (omega arith))

pub put_two-requires-2 : goal.put_two-requires-2
put_two-requires-2 c =
    let p = places-more 2 c.args.n (omega arith) (omega arith) (omega arith) in
    (simp length-set (omega arith), omega arith)

pub returns : goal.returns
returns c =
    let a = c.args in
    let p = places-more 2 a.n (omega arith) (omega arith) (omega arith) in
    (omega arith, c.put_two-2.ensures ∙ three-laid a.out.now a.at a.n (omega arith) (omega arith) (omega arith))

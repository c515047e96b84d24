-- The logarithm is one less than the number of digits.
use Rattle.std.proofs.Common.{arith}
use Rattle.std.proofs.Math.Nat.{pow-succ'}
use Rattle.text.specs.Digits.{places-one, places-more}
use Rattle.text.proofs.places.Goals as goal

pub returns-in-Some : goal.returns-in-Some
returns-in-Some c =
    let log = c.in-Some.ensures in
    let d = places-more c.in-Some.k c.args.n log.power_le (rw (pow-succ' 10 c.in-Some.k) log.next_power_gt) (omega arith) in
    omega arith

pub returns-in-None : goal.returns-in-None
returns-in-None c = places-one c.args.n (omega (arith, c.in-None.ensures.none))

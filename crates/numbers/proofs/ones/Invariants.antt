-- `n` counts the ones below bit p.
use Rattle.std.proofs.Common.{◌≡◌, ◌≤◌}
use Rattle.numbers.specs.Count.{sum, one}
use Rattle.numbers.specs.Bits.{bit}
use Rattle.numbers.proofs.ones.Given as goal

abbrev pub invariant-loop-p : goal.invariant-loop-p
invariant-loop-p l = (l.n ≤ l.p) × (l.n ≡ sum (λ q. one (bit q l.m)) l.p)

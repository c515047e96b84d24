-- The best of the first i entries is held.
use Rattle.std.proofs.Common.{◌≡◌}
use Rattle.choice.specs.Best.{found_after}
use Rattle.choice.proofs.chosen.Given as goal

abbrev pub invariant-loop-i : goal.invariant-loop-i
invariant-loop-i l = l.best ≡ found_after l.entries l.asset l.parent l.kind l.ask l.i

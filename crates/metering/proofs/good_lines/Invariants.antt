-- `metering::good_lines` meets its contract. The invariant: `good` tells whether the counts are right and the first k lines are fine.
use mathlib.Core.Path.{◌≡◌}
use mathlib.Core.Bool.{◌&&◌}
use lib.Dec.{leb}
use Rattle.numbers.specs.Count.{all}
use Rattle.metering.specs.Good.{fine_at}
use Rattle.metering.proofs.good_lines.Given as goal

abbrev pub invariant-loop-k : goal.invariant-loop-k
invariant-loop-k l =
    l.good ≡ ((leb l.n l.report.lent && leb l.report.lent 64) && all (fine_at l.assets l.n l.report.lines) l.k)

-- The first i lines name their assets, and the others are blank.
use Rattle.std.proofs.Common.{◌≡◌}
use Rattle.turn.specs.Zeros.{zeros_to}
use Rattle.turn.proofs.zero_lines.Given as goal

abbrev pub invariant-loop-i : goal.invariant-loop-i
invariant-loop-i l = l.lines ≡ zeros_to l.b.assets l.i

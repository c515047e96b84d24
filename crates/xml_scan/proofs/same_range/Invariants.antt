-- `xml_scan::same_range` meets its contract. The invariant: the first i bytes of the two ranges are the same.
use mathlib.Core.Path.{◌≡◌}
use mathlib.Core.Bool.{true}
use Rattle.xml_model.specs.State.{alike}
use Rattle.xml_scan.proofs.same_range.Given as goal

abbrev pub invariant-loop-i : goal.invariant-loop-i
invariant-loop-i l = alike l.s l.a l.x l.i ≡ true

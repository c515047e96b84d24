-- `xml_scan::look` meets its contract. The invariant: what is found from the start is what is found from j on.
use Prim.Native.Nat.{◌-◌}
use mathlib.Core.Path.{◌≡◌}
use lib.ListN.{length}
use Rattle.xml_model.specs.Tags.{look}
use Rattle.xml_scan.proofs.look.Given as goal

abbrev pub invariant-loop-a : goal.invariant-loop-a
invariant-loop-a l = look l.s l.name l.first ≡ look l.s l.name l.j

abbrev pub decreases-loop-a : goal.decreases-loop-a
decreases-loop-a l = length l.s - l.j

-- `xml_scan::tail_of` meets its contract. The invariant: the tail from the start is the tail from j on.
use Prim.Native.Nat.{◌-◌}
use mathlib.Core.Path.{◌≡◌}
use lib.ListN.{length}
use Rattle.xml_model.specs.Tags.{tail_of}
use Rattle.xml_model.proofs.Units.{rest}
use Rattle.xml_scan.proofs.tail_of.Given as goal

abbrev pub invariant-loop-first : goal.invariant-loop-first
invariant-loop-first l = tail_of l.s l.first ≡ rest l.s l.first l.j

abbrev pub decreases-loop-first : goal.decreases-loop-first
decreases-loop-first l = length l.s - l.j

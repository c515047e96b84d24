-- `xml_scan::is_given` meets its contract. The invariant: whether the name is given from the start is whether it is given from j on.
use Prim.Native.Nat.{◌-◌}
use mathlib.Core.Path.{◌≡◌}
use lib.ListN.{length}
use Rattle.xml_model.specs.Bytes.{part}
use Rattle.xml_model.specs.Tags.{given}
use Rattle.xml_scan.proofs.is_given.Given as goal

abbrev pub invariant-loop-j : goal.invariant-loop-j
invariant-loop-j l = given l.s l.p (part l.s l.n l.e) l.first ≡ given l.s l.p (part l.s l.n l.e) l.j

abbrev pub decreases-loop-j : goal.decreases-loop-j
decreases-loop-j l = length l.s - l.j

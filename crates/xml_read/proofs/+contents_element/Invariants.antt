-- `xml_read::element` and `xml_read::contents`, which call each other, meet their contracts: each way through them is a law of
-- `Nested`. The measure is twice the levels left, and one more for the contents. The loop's invariant: the contents up to `here` are
-- read. Each turn reads at least one byte.
use Prim.Native.Nat.{◌+◌, ◌-◌}
use lib.ListN.{length}
use Rattle.xml_table.specs.Codes.{role_code}
use Rattle.xml_read.specs.Nesting.{Turn}
use Rattle.xml_read.proofs.+contents_element.Given as goal

abbrev pub decreases-contents : goal.decreases-contents
decreases-contents l = l.left + l.left + 1

abbrev pub decreases-element : goal.decreases-element
decreases-element l = l.left + l.left

abbrev pub invariant-contents-loop-t : goal.invariant-contents-loop-t
invariant-contents-loop-t l =
    Turn l.s l.at l.name l.end (role_code l.role) l.left l.initial.st l.here l.state l.st

abbrev pub decreases-contents-loop-t : goal.decreases-contents-loop-t
decreases-contents-loop-t l = length l.s - l.here

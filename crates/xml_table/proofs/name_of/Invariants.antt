-- The invariant: the name is none of those so far.
use Rattle.std.specs.Prelude.{◌≡◌, suc, drop}
use Rattle.xml_model.specs.Elements.{known, find}
use Rattle.xml_table.proofs.name_of.Given as goal

abbrev pub invariant-loop-name : goal.invariant-loop-name
invariant-loop-name l = find l.v 1 known ≡ find l.v (suc l.name-index) (drop l.name-index known)

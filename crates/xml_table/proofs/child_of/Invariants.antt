-- The invariant: none of the rows so far accepts the child.
use Rattle.std.specs.Prelude.{◌≡◌}
use Rattle.numbers.specs.Count.{first}
use Rattle.xml_model.specs.Elements.{fits}
use Rattle.xml_table.specs.Codes.{role_code, name_number}
use Rattle.xml_table.proofs.child_of.Given as goal

abbrev pub invariant-loop-row : goal.invariant-loop-row
invariant-loop-row l =
    first (fits (role_code l.role) l.state (name_number l.name)) l.row-index ≡ l.row-index

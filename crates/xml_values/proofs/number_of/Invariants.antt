-- `xml_values::number_of` meets its contract. The invariant: the digits left, read on from x, give the number, up to the ceiling.
use mathlib.Core.Path.{◌≡◌}
use Prim.Native.Nat.{◌≤◌, min}
use lib.ListN.{drop}
use Rattle.xml_model.specs.Values.{number_from, number_of}
use Rattle.xml_values.specs.Saturated.{ceiling}
use Rattle.xml_values.proofs.number_of.Given as goal

abbrev pub invariant-loop-c : goal.invariant-loop-c
invariant-loop-c l = (l.x ≤ ceiling) × (min (number_of l.v) ceiling ≡ min (number_from l.x (drop l.c-index l.v)) ceiling)

use native.Mathlib.Omega.{arith}
use Rattle.xml_scan.proofs.ClassTable.{has-class}
use Rattle.xml_scan.proofs.in_class.Goals as goal

pub returns : goal.returns
returns c = rw c.bit_of.ensures (has-class c.args.class c.args.c (omega arith))

use native.Mathlib.Omega.{arith}
use Rattle.xml_scan.proofs.ClassTable.{has-start}
use Rattle.xml_scan.proofs.is_name_start.Goals as goal

pub returns : goal.returns
returns c = has-start c.args.c (omega arith)

-- `image_parse::table_in`: after i turns the first i slots are read, and the others are blank.
use Rattle.image_parse.specs.Tables.{ReadTo}
use Rattle.image_parse.proofs.table_in.Given as goal

abbrev pub invariant-loop-i : goal.invariant-loop-i
invariant-loop-i g l = let r = g.T.Record in ReadTo (r.held l.v) r.none g.row.N (r.bytes l.v) l.at l.n l.s l.table l.i l.o

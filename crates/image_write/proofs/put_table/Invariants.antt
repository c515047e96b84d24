-- `put_table` writes the records one after another. After i turns the first i are written.
use lib.ListN.{get_or}
use Rattle.numbers.proofs.BufferLaws.{WrittenTo}
use Rattle.image_write.proofs.put_table.Given as goal

abbrev pub invariant-loop-i : goal.invariant-loop-i
invariant-loop-i g l = let r = g.T.Record in WrittenTo (λ k. r.bytes (get_or l.table k r.none)) r.size l.initial.buf l.at l.n l.buf l.i l.o

-- Less than a record is kept, so there is room to read. What is written, with the text of what is still to be read, is the text of all.
use Rattle.std.proofs.Common.{◌<◌, ◌≡◌, List, length, take}
use Rattle.book.specs.declared.Line.{Line}
use Rattle.model.specs.Record.{record_size}
use Rattle.report.specs.Report.{taken_lines}
use Rattle.serve.proofs.Reading.{Reading}
use Rattle.serve.proofs.answer_reads.Given as goal

abbrev pub invariant-loop : goal.invariant-loop
invariant-loop g l = (l.kept < record_size)
    × ((ls : List Line) → l.initial.report.lines ≡ taken_lines ls → l.initial.report.lent ≡ length ls
    → Reading l.initial.book ls l.book l.report.lines l.report.lent (take l.kept l.input)
    (g.R.Read.remaining l.initial.reader) (g.W.Write.contents l.initial.writer) (g.R.Read.remaining l.reader) (g.W.Write.contents l.writer))

use Rattle.std.proofs.Common.{length, replicate, arith, min}
use Rattle.std.proofs.lemmas.List.{length-replicate}
use Rattle.book.specs.Blank.{no_line}
use Rattle.report.specs.Report.{copied-parts, taken_lines}
use Rattle.report.proofs.take_lines.Goals as goal

pub returns : goal.returns
unfolding taken_lines
returns c =
    let src = c.args.report.now in
    let n = min (length src) 64 in
    rw (c.copy_from_slice.ensures.after, c.min-n.ensures, c.blank_line-lines.ensures)
    (copied-parts n src (replicate 64 no_line) (omega arith) (omega (arith, length-replicate 64 no_line)))

use Rattle.std.proofs.Common.{◌≡◌, length, arith, rules, min}
use Rattle.report.specs.Report.{copied-parts, given_lines}
use Rattle.report.proofs.give_lines.Goals as goal

pub returns : goal.returns
unfolding given_lines
returns c =
    let src = c.args.lines in
    let dst = c.args.report.now in
    let whole : length src ≡ 64 = search rules in
    rw (c.copy_from_slice.ensures.after, c.min-n.ensures)
    (copied-parts (min (length dst) 64) src dst (omega arith) (omega arith))

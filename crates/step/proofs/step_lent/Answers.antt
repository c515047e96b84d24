-- `step::step_lent` meets its contract: what the calls leave, one after the other.
use Rattle.std.proofs.Common.{◌∙◌, ap, List, length}
use Rattle.book.specs.declared.Line.{Line}
use Rattle.book.specs.declared.Reported.{Reported}
use Rattle.model.specs.Record.{decoded}
use Rattle.report.specs.Report.{taken_lines, given_lines}
use Rattle.step.specs.Lines.{reported_on, outcome_of}
use Rattle.step.specs.Given.{reported-outcome, reported-lines}
use Rattle.step.proofs.step_lent.Goals as goal

pub returns : goal.returns
returns c =
    let a = c.args in
    let ys = a.report.now in
    let d = decoded a.s.now in
    let e = c.step_lines-after.ensures ∙ ap (λ (l : List Line). reported_on a.b d l (length ys)) c.take_lines-lines.ensures in (
      ap outcome_of e ∙ reported-outcome a.b d ys,
      c.give_lines.ensures ∙ ap (λ (y : Reported). given_lines y.lines ys) e ∙ reported-lines a.b d ys,
    )

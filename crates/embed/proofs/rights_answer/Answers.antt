-- `embed::rights_answer` meets its contract: the lines taken from the list, answered with by value and stored back.
use Rattle.std.proofs.Common.{rules, ◌≡◌, MatchResult}
use Rattle.report.specs.Report.{given_lines}
use Rattle.embed.proofs.Lent.{answer-stored}
use Rattle.embed.proofs.rights_answer.Goals.{in-Ok, in_default}
use Rattle.embed.proofs.rights_answer.Goals as goal

pub returns : goal.returns
returns c =
    let a = c.args in
    let r = c.answer_image-answered.result in
    let k : MatchResult r
    (λ x. (c.match-answered.written ≡ x.written) × (c.match-answered.report ≡ given_lines x.report.lines a.report.now))
    (λ f. (c.match-answered.written ≡ a.written.now) × (c.match-answered.report ≡ a.report.now)) = search rules in
    let d : c.match-answered.answered ≡ r = search rules in
    rw (c.code_of.ensures, d)
    (
    answer-stored a.image.now a.size.now a.records.now a.out.now a.written.now a.report.now r _ _ _ _ _
    (rw (c.take_lines-lines.ensures) at (c.answer_image-answered.ensures a.written.now)) k
    )

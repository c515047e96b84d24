-- `embed::rights_answer_one` meets its contract: the lines taken from the list, answered with by value and stored back.
use Rattle.std.proofs.Common.{rules, ◌≡◌, MatchResult}
use Rattle.report.specs.Report.{given_lines}
use Rattle.embed.proofs.Lent.{one-stored}
use Rattle.embed.proofs.rights_answer_one.Goals.{in-Ok, in_default}
use Rattle.embed.proofs.rights_answer_one.Goals as goal

pub returns : goal.returns
returns c =
    let a = c.args in
    let r = c.answer_event-answered.result in
    let m = c.match-answered in
    let k : MatchResult r
    (λ x. (m.code ≡ x.answer.code) × (m.entry ≡ x.answer.entry) × (m.until ≡ x.answer.until) × (m.report ≡ given_lines x.lines a.report.now))
    (λ f. (m.code ≡ a.code.now) × (m.entry ≡ a.entry.now) × (m.until ≡ a.until.now) × (m.report ≡ a.report.now)) = search rules in
    let d : m.answered ≡ r = search rules in
    rw (c.code_of.ensures, d)
    (
    one-stored a.image.now a.size.now _ a.code.now a.entry.now a.until.now a.report.now r _ _ _ _ _ _
    (rw (c.take_lines-lines.ensures) at (c.answer_event-answered.ensures a.code.now a.entry.now a.until.now)) k
    )

-- `rules::gate_of` meets its contract. A number in line is not the last one, so it can be tested first.
use Rattle.std.proofs.Common.{rules, sym, ◌∙◌}
use Rattle.model.specs.Gate.{gate, timely}
use Rattle.rules.specs.Line.{in-line-other}
use Rattle.rules.proofs.gate_of.Goals as goal

pub returns-then-e-now : goal.returns-then-e-now
unfolding gate timely
returns-then-e-now c =
    let line = sym c.in_line.ensures ∙ c.if-not-in_line.false in
    let other = in-line-other c.args.last c.args.e.number line in
    search (rules, other)

pub returns : goal.returns
unfolding gate timely
returns c =
    let line = sym c.in_line.ensures ∙ c.if-not-in_line.false in
    let other = in-line-other c.args.last c.args.e.number line in
    search (rules, other)

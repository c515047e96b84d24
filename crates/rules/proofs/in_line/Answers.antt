-- `rules::in_line` meets its contract: none after the largest number, the next number, or else by boot number and counter.
use Rattle.std.proofs.Common.{rules, sym, ◌∙◌, arith}
use Rattle.model.proofs.Demand3.Checks.{next-line}
use Rattle.rules.specs.Line.{none-in-line, by-boot}
use Rattle.rules.proofs.in_line.Goals as goal

pub returns-in_default : goal.returns-in_default
returns-in_default c =
    let a = c.args in
    sym (none-in-line a.last a.number (omega (arith, c.in_default.ensures)))

pub returns-then-next-number : goal.returns-then-next-number
returns-then-next-number c =
    let a = c.args in
    sym (next-line a.last a.number (omega arith) (sym c.if-next-number.true ∙ c.in-Some.ensures.1))

pub returns : goal.returns
returns c =
    let a = c.args in
    by-boot a.last a.number (omega arith) (λ q. c.if-next-number.false (c.in-Some.ensures.1 ∙ sym q))

-- `rules::grantable` meets its contract: none of the grounds stands.
use mathlib.Core.Bool.{true}
use Rattle.numbers.proofs.Tests.{none_row}
use Rattle.model.specs.Choice.{ground_list, grounds_of, grantable}
use borrow.Author.Rules.{rules}
use Rattle.rules.proofs.grantable.Goals as goal

pub returns : goal.returns
unfolding grantable
returns c =
    let g = c.grounds_of-g in
    let a = c.args in
    rw g.ensures (none_row true (ground_list (grounds_of a.ask a.l a.m)))

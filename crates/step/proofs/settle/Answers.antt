-- `step::settle` meets its contract: if no use is due, settling leaves the book as it is.
use mathlib.Core.Path.{◌≡◌, sym, ◌∙◌}
use lib.ListN.{length}
use borrow.Author.Tests.{not-true}
use Rattle.numbers.proofs.Loops.{length-mapped}
use Rattle.step.specs.Step.{settled-none}
use borrow.Author.Rules.{rules}
use Rattle.step.proofs.settle.Goals as goal
use Rattle.step.proofs.settle.Goals.{Start}

players-16 : (c : Start) → length c.args.b.players ≡ 16
players-16 c = search length-mapped

pub returns-then-not-any_due : goal.returns-then-not-any_due
returns-then-not-any_due c =
    settled-none _ _ (players-16 c.before.before.before) (sym c.any_due.ensures ∙ not-true _ c.if-not-any_due.true-raw)

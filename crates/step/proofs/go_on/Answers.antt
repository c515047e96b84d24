-- `step::go_on` meets its contract: what `continue_on` leaves of the entry is stored at the entry's position.
use mathlib.Core.Path.{ap, ◌∙◌}
use Rattle.book.specs.declared.Entry.{Entry}
use Rattle.uses.specs.declared.Effect.{Effect}
use Rattle.uses.specs.Uses.{placed, continue_on, continue-placed}
use borrow.Author.Rules.{rules}
use Rattle.step.proofs.go_on.Goals as goal

pub returns : goal.returns
returns c =
    let a = c.args in
    ap (λ (p : Effect). placed a.o.entry p a.b.entries)
    (c.continue_on.ensures ∙ ap (λ (x : Entry). continue_on a.t x.limits x.meters a.o)
    c.entry_at-x.ensures) ∙ continue-placed a.t a.b.entries a.o
    c.requires

-- `step::cancel` meets its contract: what `cancel_on` leaves of the entry is stored at the entry's position.
use mathlib.Core.Path.{ap, ◌∙◌}
use Rattle.book.specs.declared.Entry.{Entry}
use Rattle.uses.specs.declared.Effect.{Effect}
use Rattle.uses.specs.Uses.{placed, cancel_on, cancel-placed}
use borrow.Author.Rules.{rules}
use Rattle.step.proofs.cancel.Goals as goal

pub returns : goal.returns
returns c =
    let a = c.args in
    ap (λ (p : Effect). placed a.o.entry p a.b.entries)
    (c.cancel_on.ensures ∙ ap (λ (x : Entry). cancel_on a.player a.recent x.limits x.meters a.o)
    c.entry_at-x.ensures) ∙ cancel-placed a.player a.recent a.b.entries a.o

-- `step::stop` meets its contract: what `stop_on` leaves of the entry is stored at the entry's position.
use mathlib.Core.Path.{ap, ◌∙◌}
use Rattle.book.specs.declared.Entry.{Entry}
use Rattle.uses.specs.declared.Effect.{Effect}
use Rattle.uses.specs.Uses.{placed, stop_on, stop-placed}
use borrow.Author.Rules.{rules}
use Rattle.step.proofs.stop.Goals as goal

pub returns : goal.returns
returns c =
    let a = c.args in
    ap (λ (p : Effect). placed a.o.entry p a.b.entries)
    (c.stop_on.ensures ∙ ap (λ (x : Entry). stop_on a.ask.player a.ask.time x.limits x.meters a.o)
    c.entry_at-x.ensures) ∙ stop-placed a.ask a.b.entries a.o

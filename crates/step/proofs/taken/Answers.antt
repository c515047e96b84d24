-- `step::taken` meets its contract: settled, then operated on, then stored.
use Rattle.std.proofs.Common.{◌≡◌, ap, ◌∙◌, false}
use Rattle.book.specs.declared.Answer.{Answer}
use Rattle.book.specs.declared.Book.{Book}
use Rattle.book.specs.declared.Event.{Event}
use Rattle.book.specs.declared.Recent.{Recent}
use Rattle.model.specs.Choice.{asks, catalog_of}
use Rattle.model.specs.Step.{Done, done, open_at, taken_step}
use Rattle.uses.specs.Uses.{placed}
use Rattle.step.specs.Settle.{with, settled_book}
use Rattle.step.specs.Step.{taken_from, stored_book, recent_on, taken_is}
use Rattle.step.proofs.taken.Goals as goal

abbrev operated : Book → Event → Recent → Done
operated n e x = done e.request (catalog_of n) n.entries (open_at n.players e.player) (asks n e) x

-- what an operation left on the settled book n, stored
done-stored :
    (b n : Book) (e : Event) (r : Recent) (d : Done) →
    n ≡ settled_book e.time b →
    r ≡ recent_on n e →
    d ≡ operated n e r →
    taken_from n e d ≡ taken_step b e
done-stored b n e r d is-settled is-recent is-done =
    ap (taken_from n e) is-done
    ∙ ap (λ (x : Recent). taken_from n e (operated n e x)) is-recent
    ∙ ap (λ (x : Book). taken_from x e (operated x e (recent_on x e))) is-settled
    ∙ taken_is b e

pub returns-in-Ok : goal.returns-in-Ok
unfolding placed stored_book
returns-in-Ok c =
    let a = c.args in
    let n = c.settle-n.result in
    let part = c.in-Ok.a.part in
    c.store_event.ensures
    ∙ ap (λ (m : Book). taken_from m a.e (record { answer = part.answer; entries = m.entries; current = part.current; started = part.started }))
    c.metered-m.ensures
    ∙ done-stored a.b n a.e c.recent_of-recent.result _ c.settle-n.ensures c.recent_of-recent.ensures c.in-Ok.ensures

pub returns-in-Err : goal.returns-in-Err
returns-in-Err c =
    let a = c.args in
    let n = c.settle-n.result in
    c.store_event-in-Err.ensures
    ∙ ap (λ (x : Answer). taken_from n a.e (record { answer = x; entries = n.entries; current = open_at n.players a.e.player; started = false }))
    c.refused.ensures
    ∙ done-stored a.b n a.e c.recent_of-recent.result _ c.settle-n.ensures c.recent_of-recent.ensures c.in-Err.ensures

-- `step::step_lines`: the lines of an event are the model's.
use Rattle.std.proofs.Common.{◌≡◌, List, ap, sym, ◌∙◌, not}
use Rattle.book.specs.declared.Line.{Line}
use Rattle.book.specs.declared.Book.{Book}
use Rattle.book.specs.declared.Event.{Event}
use Rattle.book.specs.declared.Outcome.{Outcome}
use Rattle.book.specs.declared.Reported.{Reported}
use Rattle.book.specs.Decoded.{Decoded, Valid}
use Rattle.model.specs.Gate.{gate}
use Rattle.model.specs.Step.{last_at, step, arrive}
use Rattle.model.specs.Report.{lines_read}
use Rattle.step.specs.Lines.{lines_with, lines-own, reported_on}
use Rattle.step.proofs.step_lines.Goals as goal

reported-path : {x y : Reported} → x.answer ≡ y.answer → x.book ≡ y.book → x.lines ≡ y.lines → x ≡ y
reported-path p q r = λ i. record { answer = p i; book = q i; lines = r i }

-- an event with a good list
event-on : (b : Book) (e : Event) (lines : List Line) (o : Outcome) (ls : List Line) → o ≡ step b e
    → ls ≡ lines_with o.answer (gate b.time (last_at b.players e.player) e) b e lines
    → ◌≡◌ {A = Reported} (record { answer = o.answer; book = o.book; lines = ls })
    (record { answer = (arrive b (Valid e)).answer; book = (arrive b (Valid e)).book; lines = lines_read b (Valid e) lines })
unfolding arrive
event-on b e lines o ls p q = reported-path (ap (λ (x : Outcome). x.answer) p) (ap (λ (x : Outcome). x.book) p)
    (q ∙ ap (λ (x : Outcome). lines_with x.answer (gate b.time (last_at b.players e.player) e) b e lines) p ∙ lines-own b e lines)

pub returns-in-Ok : goal.returns-in-Ok
unfolding reported_on
returns-in-Ok c =
    let a = c.args in
    rw (sym c.good_list.ensures ∙ c.if-not-good_list.false, c.in-Ok.ensures)
    (event-on a.b _ a.report.lines _ _ c.step-o.ensures c.lines_after.ensures)

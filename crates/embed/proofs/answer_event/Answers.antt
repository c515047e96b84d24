-- `embed::answer_event` meets its contract: each of its three exits leaves what `ByValue` says.
use Prim.Native.Nat.{ℕ}
use mathlib.Core.Path.{◌≡◌, refl, sym, ap₂, ◌∙◌}
use mathlib.Core.List.{List}
use Rattle.std.proofs.Common.{rules, Err}
use Rattle.book.specs.declared.Book.{Book}
use Rattle.model.specs.Record.{decoded}
use Rattle.step.specs.Lines.{reported_on}
use Rattle.encode.specs.Record.{record_bytes, record-shut}
use Rattle.embed.specs.declared.Failure.{Failure}
use Rattle.embed.specs.Calls.{lent_book}
use Rattle.embed.proofs.Left.{written-length}
use Rattle.embed.proofs.OneLeft.{one-refused, one-unwritten, one-answered}
use Rattle.embed.proofs.answer_event.Goals as goal

pub returns-in_err-book : goal.returns-in_err-book
returns-in_err-book c =
    let a = c.args in
    let h = c.in_err-book.ensures in
    let e : c.from_residual.result ≡ Err c.in_err-book.field-0.0 = search rules in
    λ code entry until.
    rw e (one-refused a.image.now a.size.now _ code entry until a.report.lines a.report.lent _ h.0 (λ z. h.1 (sym h.0 ∙ z)))

pub returns-in_err-size : goal.returns-in_err-size
returns-in_err-size c =
    let a = c.args in
    let q = a.event in
    let h = c.in_ok-book.ensures in
    let w = c.in_err-size.ensures in
    let bytes = c.record_bytes.ensures ∙ record-shut q.player q.number q.operation q.asset q.kind q.time in
    let step = c.step_lines-after in
    let same : step.result ≡ reported_on (lent_book a.image.now a.size.now)
    (decoded (record_bytes q.player q.number q.operation q.asset q.kind q.time)) a.report.lines a.report.lent =
    step.ensures ∙ ap₂ (λ (b : Book). λ (s : List ℕ). reported_on b (decoded s) a.report.lines a.report.lent) h.1 bytes in
    let e : c.from_residual-in_err-size.result ≡ Err (Failure.NoRoom) = search rules in
    λ code entry until.
    rw (e, w.kept)
    (one-unwritten a.image.now a.size.now _ code entry until a.report.lines a.report.lent step.result _ h.0 same refl w.value.0)

pub returns : goal.returns
returns c =
    let a = c.args in
    let q = a.event in
    let h = c.in_ok-book.ensures in
    let w = c.in_ok-size.ensures in
    let bytes = c.record_bytes.ensures ∙ record-shut q.player q.number q.operation q.asset q.kind q.time in
    let step = c.step_lines-after in
    let same : step.result ≡ reported_on (lent_book a.image.now a.size.now)
    (decoded (record_bytes q.player q.number q.operation q.asset q.kind q.time)) a.report.lines a.report.lent =
    step.ensures ∙ ap₂ (λ (b : Book). λ (s : List ℕ). reported_on b (decoded s) a.report.lines a.report.lent) h.1 bytes in
    let n = written-length step.result.book a.image.now _ w.value.0 w.value.1 in
    λ code entry until.
    rw n
    (one-answered a.image.now a.size.now _ code entry until a.report.lines a.report.lent step.result _ h.0 same refl _ w.value.0 w.buf_after)

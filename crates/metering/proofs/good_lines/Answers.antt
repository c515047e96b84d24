use Rattle.std.proofs.Common.{◌≡◌, ℕ, Bool, ◌&&◌, sym, ap, ap₂, ◌∙◌, arith, rules}
use mathlib.Core.Bool.{and_assoc, and-true}
use Rattle.std.proofs.Math.Dec.{leb, ltb}
use Rattle.std.proofs.lemmas.Option.{unwrap_or-slice_get}
use Rattle.book.specs.declared.Asset.{Asset}
use Rattle.model.specs.Book.{asset_at}
use Rattle.model.specs.Report.{line_at}
use Rattle.numbers.specs.Count.{all}
use Rattle.numbers.proofs.Loops.{all-turn}
use Rattle.metering.specs.Good.{fine, fine_at, good_lines}
use Rattle.metering.proofs.good_lines.Goals as goal

pub loop-k-init : goal.loop-k-init
unfolding all
loop-k-init c = sym (and-true _)

pub loop-k-preserved : goal.loop-k-preserved
loop-k-preserved c =
    let a = c.args in
    let n = c.min-n.result in
    let l = c.loop-k in
    let w = leb n a.report.lent && leb a.report.lent 64 in
    let ats = a.assets.now in
    let here : c.unwrap_or-a.result ≡ asset_at ats l.k = search (rules, unwrap_or-slice_get) in
    ap₂ (λ (x y : Bool). x && y) l.invariant
    (c.fine_line-good.ensures ∙ ap (λ (x : Asset). fine (ltb l.k n) x.number (line_at a.report.lines l.k)) here)
    ∙ and_assoc w (all (fine_at ats n a.report.lines) l.k) (fine_at ats n a.report.lines l.k)
    ∙ ap (λ (x : Bool). w && x) (sym (all-turn (fine_at ats n a.report.lines) l.k))

pub returns : goal.returns
unfolding good_lines
returns c =
    let a = c.args in
    let l = c.loop-k in
    let e : l.k ≡ 64 = omega arith in
    l.invariant
    ∙ ap (λ (k : ℕ). (leb c.min-n.result a.report.lent && leb a.report.lent 64) && all (fine_at a.assets.now c.min-n.result a.report.lines) k) e
    ∙ ap (λ (m : ℕ). (leb m a.report.lent && leb a.report.lent 64) && all (fine_at a.assets.now m a.report.lines) 64) c.min-n.ensures

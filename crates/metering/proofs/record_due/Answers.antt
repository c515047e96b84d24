use Rattle.std.proofs.Common.{◌≡◌, ◌<◌, ◌≤◌, ℕ, Option, sym, ap, ◌∙◌, min, length, ◌-◌, refl, arith, rules}
use Rattle.std.specs.Option.{unwrap_or}
use Rattle.model.specs.Report.{line_at, raised}
use Rattle.model.specs.Step.{open_at}
use Rattle.report.specs.Report.{raised_is}
use Rattle.metering.specs.Recording.{due-as, due-below, due-none, turn-raised, turn-kept}
use Rattle.metering.proofs.record_due.Goals as goal
use Rattle.metering.proofs.record_due.Goals.{in-Some, in_default}

pub loop-i-init : goal.loop-i-init
loop-i-init c = due-none _ _ _

pub raise_line-requires : goal.raise_line-requires
raise_line-requires c =
    let a = c.args in
    let size : length a.b.assets ≡ 64 = search rules in
    let room : min a.b.assetcount 64 ≤ length a.b.assets = omega arith in
    due-below a.b _ c.at_most_64.ensures room c.entry_at.result.limits a.t (open_at a.b.players c.loop-i.i) c.in-Some.k c.in-Some.ensures

pub loop-i-preserved : goal.loop-i-preserved
loop-i-preserved c =
    let a = c.args in
    let l = c.loop-i in
    let size : length a.b.assets ≡ 64 = search rules in
    let room : min a.b.assetcount 64 ≤ length a.b.assets = omega arith in
    let people : length a.b.players ≡ 16 = search rules in
    let there : l.i < length a.b.players = omega (arith, c.loop-i-test.true) in
    let u = open_at a.b.players l.i in
    let e = c.entry_at.result in
    let n = c.at_most_64 in
    let due-is = due-as a.b n.result n.ensures room e.limits a.t u in
    elim c.match-due_line.branch [
      | in-Some w ↦
          let k = w.in-Some.k in
          let s = w.saturating_sub-seconds.result in
          let y = line_at l.after k in
          let here = ap (λ (r : Option ℕ). unwrap_or r 64) w.in-Some.ensures ∙ due-is in
          w.after-is ∙ w.raise_line.ensures
          ∙ turn-raised a.b a.lines a.t l.i there l.after l.invariant e k s c.entry_at.ensures here w.saturating_sub-seconds.ensures
          (raised e.limits s y)
          (due-below a.b n.result n.ensures room e.limits a.t u k w.in-Some.ensures)
          (sym (raised_is e.limits s y))
      | in_default w ↦
          let out = ap (λ (r : Option ℕ). unwrap_or r 64) w.in_default.ensures ∙ due-is in
          w.after-is ∙ turn-kept a.b a.lines a.t l.i there l.after l.invariant e 64 (u.until - u.begin) c.entry_at.ensures out refl (omega arith)
    ]

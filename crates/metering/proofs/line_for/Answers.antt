use Rattle.std.proofs.Common.{ℕ, cond, Some, None, length, ltb, ◌&&◌, sym, ap, ◌∙◌}
use Rattle.std.proofs.Math.Dec.{eqb}
use borrow.Author.Tests.{not-false}
use Rattle.image_limits.proofs.Used.{counted}
use Rattle.metering.specs.Recording.{line_in}
use Rattle.metering.proofs.line_for.Goals as goal

pub returns : goal.returns
unfolding line_in
returns c =
    let a = c.args in
    let ats = a.assets.now in
    rw (not-false (eqb a.switch 1 && eqb a.l.tracked 1) c.if-not-switch-l.false-raw)
    (c.asset_position.ensures ∙ sym (ap (λ (k : ℕ). cond (ltb k (length ats)) (Some k) None) (counted ats a.content)))

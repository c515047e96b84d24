-- `step::step`: a taken event is of one of the sixteen players, and not later than the latest time.
use Rattle.std.proofs.Common.{arith, sym, ap, ◌∙◌}
use Rattle.book.specs.declared.Player.{Player}
use Rattle.book.specs.Gate.{passed}
use Rattle.model.specs.Gate.{gate}
use Rattle.model.proofs.Legal.Step.{gate-passed}
use Rattle.step.proofs.step.Goals as goal

pub taken-requires : goal.taken-requires
taken-requires c =
    let a = c.args in
    let asked = ap (λ (p : Player). gate a.b.time p.last a.e) c.player_at-asking.ensures in
    let p = gate-passed a.b a.e (sym asked ∙ c.in-Ok-Take.ensures ∙ ap passed c.in-Ok-Take.field-0-is) in
    (omega (arith, p.player), p.early)

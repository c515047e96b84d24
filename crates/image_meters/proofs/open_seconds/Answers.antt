use mathlib.Core.Path.{◌≡◌, refl, sym, ap, ap₂, ◌∙◌}
use mathlib.Core.Bool.{Bool, cond}
use mathlib.Core.List.{List}
use Prim.Native.Nat.{ℕ, ◌+◌, ◌*◌, ◌-◌, ◌≤◌}
use native.Mathlib.Omega.{arith}
use Rattle.numbers.proofs.Loops.{sum-turn}
use Rattle.book.specs.declared.Player.{Player}
use Rattle.numbers.specs.Count.{sum}
use Rattle.model.specs.Book.{player_at, opens, lasts, open_seconds}
use borrow.Author.Rules.{rules}
use Rattle.image_meters.proofs.open_seconds.Invariants.{spent}
use Rattle.image_meters.proofs.open_seconds.Goals as goal

pub loop-p-init : goal.loop-p-init
unfolding sum
loop-p-init c = (omega arith, refl)

pub loop-p-preserved : goal.loop-p-preserved
loop-p-preserved c =
    let a = c.args in
    let l = c.loop-p in
    let turn = c.pick-d.ensures ∙ ap₂ (λ (w : Bool) (d : ℕ). cond w d 0) c.opens_entry.ensures c.saturating_sub.ensures in
    (omega arith, ap₂ ◌+◌ l.invariant.1 turn ∙ sym (sum-turn (spent a.i a.players.now) l.p))

pub returns : goal.returns
unfolding open_seconds
returns c =
    let a = c.args in
    let l = c.loop-p in
    let e : l.p ≡ 16 = omega arith in
    l.invariant.1 ∙ ap (sum (spent a.i a.players.now)) e

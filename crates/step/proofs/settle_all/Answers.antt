use Prim.Native.Nat.{◌≤◌, ◌-◌}
use lib.ListN.{length, set}
use mathlib.Core.List.{List}
use Rattle.book.specs.declared.Entry.{Entry}
use Rattle.book.specs.declared.Meters.{Meters}
use Rattle.book.specs.declared.Player.{Player}
use Rattle.uses.specs.Uses.{stored, released-stored}
use Rattle.step.specs.Settle.{with, settle_one, settle-turn, settle-all, released-out, settled_to, settle-none}
use Rattle.numbers.proofs.Loops.{length-mapped}
use mathlib.Core.Logic.{⊎_elim}
use mathlib.Core.Path.{sym, ap, ◌∙◌, ◌≡◌}
use Rattle.book.specs.declared.Book.{Book}
use Rattle.model.specs.Meters.{released}
use Rattle.model.specs.Step.{open_at}
use Rattle.model.proofs.Ledger.Concrete.{settled-size}
use native.Mathlib.Omega.{arith}
use borrow.Author.Rules.{rules}
use Rattle.step.proofs.settle_all.Goals as goal
use Rattle.step.proofs.settle_all.Goals.{then-k-lt64, else-k-lt64, Start}

pub loop-i-init : goal.loop-i-init
loop-i-init c = (omega arith, settle-none _ _)

entries-64 : (c : Start) → length c.args.b.entries ≡ 64
entries-64 c = search length-mapped

players-16 : (c : Start) → length c.args.b.players ≡ 16
players-16 c = search length-mapped

pub loop-i-preserved : goal.loop-i-preserved
unfolding stored settled_to
loop-i-preserved c =
    let l = c.loop-i in
    let s = c.before in
    let a = s.args in
    let o = open_at l.n.players l.i in
    let es = l.n.entries in
    let len : length es ≡ 64 = ap (λ (m : Book). length m.entries) l.invariant.1 ∙ settled-size _ _ _ ∙ entries-64 s.before.before.before.before.before.before in
    let m : c.if-k-lt64.n ≡ with l.n (released a.t l.i o es) l.n.players = elim c.if-k-lt64.branch [
      | then-k-lt64 w ↦ w.n-is ∙ ap (λ (x : List Entry). with l.n x l.n.players)
          (ap (λ (x : Meters). stored o.entry x es) w.released_meters.ensures ∙ released-stored a.t l.i es o)
      | else-k-lt64 w ↦ w.n-is ∙ ap (λ (x : List Entry). with l.n x l.n.players)
          (sym (released-out a.t l.i o es (omega (arith, w.if-k-lt64.false))))
    ] in (
      omega arith,
      ap (λ (x : Book). with x x.entries (set x.players l.i c.shut_player.result)) m ∙ ap
          (λ (q : Player). with l.n (released a.t l.i o es) (set l.n.players l.i q)) c.shut_player.ensures ∙ ap
          (settle_one a.t l.i) l.invariant.1 ∙ settle-turn a.t l.i a.b (omega (arith, players-16 s.before.before.before.before.before.before)),
    )

pub returns : goal.returns
returns c =
    let l = c.loop-i in
    settle-all _ _ l.n l.i l.invariant.1 (omega (arith, players-16 c.before.before, c.loop-i-test.false))

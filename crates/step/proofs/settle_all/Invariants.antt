-- `step::settle_all` meets its contract. The invariant: the first i players are settled.
use Prim.Native.Nat.{◌≤◌, ◌-◌}
use lib.ListN.{length, set}
use mathlib.Core.List.{List}
use Rattle.book.specs.declared.Entry.{Entry}
use Rattle.book.specs.declared.Meters.{Meters}
use Rattle.book.specs.declared.Player.{Player}
use Rattle.uses.specs.Uses.{stored, released-stored}
use Rattle.step.specs.Settle.{with, settle_one, settle-turn, settle-all, released-out, settled_to, settle-none}
use Rattle.numbers.proofs.Loops.{length-mapped}
use mathlib.Core.Logic.{⊎_elim}
use mathlib.Core.Path.{sym, ap, ◌∙◌, ◌≡◌}
use Rattle.book.specs.declared.Book.{Book}
use Rattle.model.specs.Meters.{released}
use Rattle.model.specs.Step.{open_at}
use Rattle.model.proofs.Ledger.Concrete.{settled-size}
use native.Mathlib.Omega.{arith}
use borrow.Author.Rules.{rules}
use Rattle.step.proofs.settle_all.Given as goal

abbrev pub invariant-loop-i : goal.invariant-loop-i
invariant-loop-i l = (l.i ≤ 16) × (l.n ≡ settled_to l.t l.i l.initial.n)

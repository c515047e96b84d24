use mathlib.Core.Path.{◌≡◌, sym, ◌∙◌}
use mathlib.Core.Bool.{Bool, false}
use Prim.Native.Nat.{ℕ, ◌<◌}
use native.Mathlib.Omega.{arith}
use Rattle.numbers.specs.Count.{all}
use Rattle.numbers.proofs.Loops.{all-turn}
use Rattle.numbers.proofs.Tests.{on_test, clash, and_both, all-below}
use Rattle.xml_model.specs.State.{kind_legal}
use Rattle.xml_entries.proofs.kind_legal.Invariants.{judged}
use Rattle.xml_entries.proofs.kind_legal.Goals as goal

broken : (f : ℕ → Bool) (n i : ℕ) → i < n → f i ≡ false → false ≡ all f n
broken f n i h e = on_test (all f n) (λ q. clash (all-below f n q i h) e) sym

pub returns-then-not-entry_legal : goal.returns-then-not-entry_legal
unfolding kind_legal
returns-then-not-entry_legal c =
    let l = c.loop-i in
    broken (judged c.args.kind c.args.st) _ l.i (omega (arith, c.how_many.ensures.0))
    (sym c.entry_legal.ensures ∙ c.if-not-entry_legal.true)

pub loop-i-preserved : goal.loop-i-preserved
loop-i-preserved c = rw all-turn (and_both c.loop-i.invariant (sym c.entry_legal.ensures ∙ c.if-not-entry_legal.false))

use Rattle.std.proofs.Common.{◌+◌, refl, sym, ap, ap₂, ◌∙◌, arith}
use Rattle.numbers.specs.Count.{sum, one}
use Rattle.numbers.proofs.Loops.{sum-turn}
use Rattle.numbers.specs.Bits.{bit, ones}
use Rattle.numbers.proofs.BitLaws.{bit-number}
use Rattle.numbers.proofs.ones.Goals as goal

pub loop-p-init : goal.loop-p-init
unfolding sum
loop-p-init c = (omega arith, refl)

pub loop-p-preserved : goal.loop-p-preserved
loop-p-preserved c =
    let m = c.args.m in
    let l = c.loop-p in (
      omega arith,
      ap₂ ◌+◌ l.invariant.1 (bit-number l.p m) ∙ sym (sum-turn (λ q. one (bit q m)) l.p),
    )

pub returns : goal.returns
unfolding ones
returns c =
    let m = c.args.m in
    let l = c.loop-p in
    l.invariant.1 ∙ ap (sum (λ q. one (bit q m))) (omega arith)

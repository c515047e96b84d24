use mathlib.Core.Path.{◌≡◌, ap, sym, ◌∙◌}
use mathlib.Core.List.{List}
use native.Mathlib.Omega.{arith}
use lib.ListN.{set, replicate}
use Rattle.numbers.specs.Count.{listed}
use Rattle.numbers.proofs.Loops.{listed-turn}
use Rattle.book.specs.declared.Line.{Line}
use Rattle.book.specs.Blank.{no_line}
use Rattle.model.specs.Book.{assets_in}
use Rattle.turn.specs.Zeros.{zero_line, zeros_to, zeros-taken, zeros-length}
use Rattle.turn.proofs.zero_lines.Goals as goal

pub loop-i-init : goal.loop-i-init
unfolding listed
loop-i-init c = ap (λ (l : Line). replicate 64 l) c.blank_line-lines.ensures

pub loop-i-preserved : goal.loop-i-preserved
loop-i-preserved c =
    let assets = c.args.b.assets in
    let l = c.loop-i in
    ap (λ (ls : List Line). set ls l.i (zero_line assets l.i)) l.invariant ∙ listed-turn (zero_line assets) no_line 64 l.i (omega arith)

pub returns : goal.returns
unfolding assets_in
returns c =
    let b = c.args.b in
    let n = c.at_most_64-n in
    let l = c.loop-i in
    let e : l.i ≡ n.result = omega arith in record {
      lines = l.invariant ∙ ap (zeros_to b.assets) (e ∙ n.ensures) ∙ zeros-taken b;
      lent = n.ensures ∙ sym (zeros-length b);
    }

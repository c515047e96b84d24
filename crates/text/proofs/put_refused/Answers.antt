-- The seven bytes are those that follow the code in a refusal.
use Rattle.std.proofs.Common.{ap, ◌∙◌, arith}
use Rattle.numbers.specs.Buffer.{lay}
use Rattle.model.specs.Run.{decimal, decimal_in}
use Rattle.text.specs.Digits.{part-laid}
use Rattle.text.specs.Lines.{refused_end}
use Rattle.text.proofs.put_refused.Goals as goal

pub returns : goal.returns
unfolding refused_end decimal decimal_in
returns c = part-laid c.args.out.now c.args.at _ _ (omega (arith, c.copy_from_slice.ensures.len)) ∙ ap (lay c.args.out.now c.args.at) c.copy_from_slice.ensures.after

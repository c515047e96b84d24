-- `image_parse::asset_in` meets its contract: each field is read at its offset.
use mathlib.Core.Path.{◌∙◌}
use Rattle.image_parse.specs.Versions.{asset-read}
use Rattle.image_parse.proofs.asset_in.Goals as goal

pub returns : goal.returns
returns c =
    let z = c.before in
    (λ i. record {
      number = c.read16.ensures i;
      inherit = c.read16-2.ensures i;
      key = c.read8.ensures i;
    })
    ∙ asset-read z.args.s.now z.args.v z.requires.0 z.requires.1

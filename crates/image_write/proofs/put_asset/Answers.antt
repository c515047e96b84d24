-- `put_asset` writes the bytes of one asset.
use mathlib.Core.Path.{◌∙◌}
use borrow.Author.Rules.{rules}
use Rattle.model.specs.Image.{asset_size}
use Rattle.image_pieces.specs.Pieces.{asset-shut, asset-length}
use Rattle.image_write.specs.Puts.{piece}
use Rattle.image_write.proofs.put_asset.Goals as goal

pub put-requires : goal.put-requires
unfolding asset_size
put-requires c = search rules

pub returns : goal.returns
returns c =
    let at-asset = c.before in
    let whole = piece (at-asset.asset_bytes-s.ensures ∙ asset-shut _) (asset-length _) at-asset.put.ensures in
    (whole.next, whole.laid)

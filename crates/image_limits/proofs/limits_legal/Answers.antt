-- `image_limits::limits_legal` meets its contract: its tests are the definition's.
use Rattle.model.specs.Book.{threshold_legal, limits_legal}
use Rattle.rules.specs.Rules.{flags_of}
use borrow.Author.Rules.{rules}
use Rattle.image_limits.proofs.limits_legal.Goals as goal

pub returns : goal.returns
unfolding limits_legal threshold_legal flags_of
returns c =
    let at-track = c.before in
    let at-ranges = at-track.before in
    let at-momentary = at-ranges.before in
    rw (
      at-track.track_legal.ensures,
      at-ranges.ranges_legal.ensures,
      at-momentary.momentary-momentary.ensures,
      at-momentary.flags_of-f.ensures,
    )

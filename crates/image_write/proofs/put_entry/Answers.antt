-- `put_entry` writes the pieces of an entry one after the other.
use mathlib.Core.Path.{ap, ◌∙◌}
use native.Mathlib.Omega.{arith}
use borrow.Author.Rules.{rules}
use Rattle.numbers.specs.Buffer.{lay}
use Rattle.model.specs.Image.{entry_size}
use Rattle.image_pieces.specs.Pieces.{limits-shut, meters-shut, track-shut, group-shut}
use Rattle.image_pieces.specs.Pieces.{limits-length, meters-length, track-length, group-length, entry-pieces}
use Rattle.image_write.specs.Puts.{piece, joint}
use Rattle.image_write.proofs.put_entry.Goals as goal

pub put-o-requires : goal.put-o-requires
unfolding entry_size
put-o-requires c = search rules

pub put-o-requires-2 : goal.put-o-requires-2
unfolding entry_size
put-o-requires-2 c = search rules

pub put-o-requires-3 : goal.put-o-requires-3
unfolding entry_size
put-o-requires-3 c = search rules

pub put-requires : goal.put-requires
unfolding entry_size
put-requires c = search rules

pub returns : goal.returns
unfolding entry_size
returns c =
    let at-group = c.before in
    let at-track = at-group.before in
    let at-meters = at-track.before in
    let at-limits = at-meters.before in
    let gb = at-limits.before in
    let tb = gb.before in
    let mb = tb.before in
    let lb = mb.before in
    let z = lb.before in
    let limits = piece (lb.limits_bytes-limits.ensures ∙ limits-shut _) (limits-length _) at-limits.put-o.ensures in
    let meters = piece (mb.meters_bytes-meters.ensures ∙ meters-shut _) (meters-length _) at-meters.put-o-2.ensures in
    let track = piece (tb.track_bytes-track.ensures ∙ track-shut _) (track-length _) at-track.put-o-3.ensures in
    let group = piece (gb.group_bytes-group.ensures ∙ group-shut _) (group-length _) at-group.put.ensures in
    let whole =
    joint (joint (joint limits meters (omega (arith, z.requires))) track (omega (arith, z.requires))) group (omega (arith, z.requires)) in
    (whole.next, whole.laid ∙ ap (lay z.args.buf.now z.args.at) (entry-pieces z.args.e))

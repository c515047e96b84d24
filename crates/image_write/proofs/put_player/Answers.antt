-- `put_player` writes the pieces of a player one after the other.
use mathlib.Core.Path.{ap, ◌∙◌}
use native.Mathlib.Omega.{arith}
use borrow.Author.Rules.{rules}
use Rattle.numbers.specs.Buffer.{lay}
use Rattle.model.specs.Image.{player_size}
use Rattle.image_pieces.specs.Pieces.{last-shut, open-shut, number-shut, last-length, open-length, number-length, player-pieces}
use Rattle.image_write.specs.Puts.{piece, joint}
use Rattle.image_write.proofs.put_player.Goals as goal

pub put-o-requires : goal.put-o-requires
unfolding player_size
put-o-requires c = search rules

pub put-o-requires-2 : goal.put-o-requires-2
unfolding player_size
put-o-requires-2 c = search rules

pub put-requires : goal.put-requires
unfolding player_size
put-requires c = search rules

pub returns : goal.returns
unfolding player_size
returns c =
    let at-content = c.before in
    let at-current = at-content.before in
    let at_last = at-current.before in
    let nb = at_last.before in
    let ob = nb.before in
    let lb = ob.before in
    let z = lb.before in
    let last = piece (lb.last_bytes-last.ensures ∙ last-shut _) (last-length _) at_last.put-o.ensures in
    let current = piece (ob.open_bytes-current.ensures ∙ open-shut _) (open-length _) at-current.put-o-2.ensures in
    let content = piece (nb.number_bytes-content.ensures ∙ number-shut _) (number-length _) at-content.put.ensures in
    let whole = joint (joint last current (omega (arith, z.requires))) content (omega (arith, z.requires)) in
    (whole.next, whole.laid ∙ ap (lay z.args.buf.now z.args.at) (player-pieces z.args.p))

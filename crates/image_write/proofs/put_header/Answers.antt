-- `put_header` writes the pieces of the header one after the other.
use mathlib.Core.Path.{◌∙◌}
use native.Mathlib.Omega.{arith}
use borrow.Author.Rules.{rules}
use Rattle.model.specs.Image.{header_size}
use Rattle.image_pieces.specs.Pieces.{start-shut, number-shut, latest-shut, start-length, number-length, latest-length}
use Rattle.image_write.specs.Puts.{piece, joint}
use Rattle.image_write.proofs.put_header.Goals as goal

pub put-o-requires : goal.put-o-requires
unfolding header_size
put-o-requires c = search rules

pub put-o-requires-2 : goal.put-o-requires-2
unfolding header_size
put-o-requires-2 c = search rules

pub put-requires : goal.put-requires
unfolding header_size
put-requires c = search rules

pub returns : goal.returns
unfolding header_size
returns c =
    let at-latest = c.before in
    let at-switch = at-latest.before in
    let at-start = at-switch.before in
    let lb = at-start.before in
    let nb = lb.before in
    let hb = nb.before in
    let z = hb.before in
    let a = z.args in
    let start =
    piece (hb.header_bytes-start.ensures ∙ start-shut a.assets a.entries a.time) (start-length a.assets a.entries a.time)
    at-start.put-o.ensures in
    let switch = piece (nb.number_bytes-metered.ensures ∙ number-shut _) (number-length _) at-switch.put-o-2.ensures in
    let latest = piece (lb.latest_bytes-latest.ensures ∙ latest-shut _) (latest-length _) at-latest.put.ensures in
    let whole = joint (joint start switch (omega (arith, z.requires))) latest (omega (arith, z.requires)) in
    record { value = whole.next; buf_after = whole.laid }

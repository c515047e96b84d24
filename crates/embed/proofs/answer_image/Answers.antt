-- `embed::answer_image` meets its contract: each of its exits leaves what `ByValue` says; the room for the image is known before.
use Prim.Native.Nat.{◌*◌, ◌≤◌, ◌<◌}
use mathlib.Core.Path.{◌≡◌, refl, sym, ap, ◌∙◌}
use native.Mathlib.Omega.{arith}
use lib.ListN.{length}
use Rattle.std.proofs.Common.{rules, Err}
use Rattle.model.specs.Image.{length_of}
use Rattle.model.specs.Run.{record_count}
use Rattle.image_write.specs.Laid.{counted}
use Rattle.embed.proofs.Left.{ceil, written-length, block-length, left-refused, left-short, left-unwritten, left-answered}
use Rattle.embed.proofs.answer_image.Goals as goal

pub returns-in_err-book : goal.returns-in_err-book
returns-in_err-book c =
    let a = c.args in
    let h = c.in_err-book.ensures in
    let e : c.from_residual.result ≡ Err c.in_err-book.field-0.0 = search rules in
    λ written.
    rw e (left-refused a.image.now a.size.now a.records.now a.out.now written a.report.lines a.report.lent _ h.0 (λ z. h.1 (sym h.0 ∙ z)))

pub returns-then-out-div_ceil : goal.returns-then-out-div_ceil
unfolding record_count
returns-then-out-div_ceil c =
    let a = c.args in
    let short : length a.out.now < 19 * record_count a.records.now = omega (arith, ceil (length a.records.now), c.if-out-div_ceil.true) in
    λ written. left-short a.image.now a.size.now a.records.now a.out.now written a.report.lines a.report.lent c.in_ok-book.ensures.0 short

pub returns-then-image-image_length : goal.returns-then-image-image_length
unfolding record_count
returns-then-image-image_length c =
    let a = c.args in
    let h = c.in_ok-book.ensures in
    let room : 19 * record_count a.records.now ≤ length a.out.now = omega (arith, ceil (length a.records.now), c.if-out-div_ceil.false) in
    λ written.
    left-unwritten a.image.now a.size.now a.records.now a.out.now written a.report.lines a.report.lent
    _ _ h.0 room h.1 (c.image_length.ensures ∙ counted _) c.if-image-image_length.true

pub returns-in_err-size : goal.returns-in_err-size
returns-in_err-size c =
    let a = c.args in
    let block = c.answer_block-block in
    let same : length_of block.result.book ≡ length_of c.in_ok-book.book =
    ap length_of block.ensures.0 ∙ block-length c.in_ok-book.book a.report.lines a.report.lent a.records.now (length a.out.now) in
    let needed = c.image_length.ensures ∙ counted c.in_ok-book.book in
    let short = c.in_err-size.ensures.value.0 in
    absurd (omega (arith, same, needed, short, c.if-image-image_length.false))

pub returns : goal.returns
unfolding record_count
returns c =
    let a = c.args in
    let h = c.in_ok-book.ensures in
    let block = c.answer_block-block in
    let w = c.in_ok-size.ensures in
    let room : 19 * record_count a.records.now ≤ length a.out.now = omega (arith, ceil (length a.records.now), c.if-out-div_ceil.false) in
    let n =
    written-length block.result.book a.image.now _ w.value.0 w.value.1
    ∙ ap length_of block.ensures.0 ∙ block-length c.in_ok-book.book a.report.lines a.report.lent a.records.now (length a.out.now) in
    let needed = c.image_length.ensures ∙ counted c.in_ok-book.book in
    λ written.
    rw n
    (
    left-answered a.image.now a.size.now a.records.now a.out.now written a.report.lines a.report.lent
    _ _ h.0 room h.1 refl block.result.book _ _ _ _ _ (omega (arith, needed, c.if-image-image_length.false)) block.ensures w.buf_after
    )

-- `image_parse::meters_in` meets its contract: each field is read at its offset.
use mathlib.Core.Path.{◌∙◌}
use native.Mathlib.Omega.{arith}
use Rattle.image_parse.specs.Versions.{meters-read, entry-four}
use Rattle.image_parse.proofs.meters_in.Goals as goal

pub added32-marks-requires : goal.added32-marks-requires
added32-marks-requires c h =
    let z = c.before in
    let e = entry-four z.args.v (omega arith) in
    omega (arith, e, z.requires.3)

pub returns : goal.returns
returns c =
    let z = c.before in
    (λ i. record {
      count = c.read32.ensures i;
      timed = c.read32-2.ensures i;
      first = c.read32-3.ensures i;
      seconds = c.read32-4.ensures i;
      started = c.read8.ensures i;
      marks = c.added32-marks.ensures i;
    })
    ∙ meters-read z.args.s.now z.args.v z.requires.0 z.requires.1
